use Rattle.std.proofs.Common.{◌<◌, length, arith}
use Rattle.at_ledger.proofs.Prelude.{common_steps, IsBegun}
use Rattle.at_ledger.proofs.Books.{log_room-take-le}
use Rattle.at_ledger.proofs.book.Book.log_room.Goals as goal

pub overflow_add-room : goal.overflow_add-room
overflow_add-room c =
    let begun : IsBegun c.args.self.now = rw (← c.self.view_is) c.self.invariant.begun in
    let within : c.loop-account.account-index < length c.args.self.now.accounts = grind arith in
    let bound = log_room-take-le c.args.self.now c.args.process c.loop-account.account-index c.account-item.result begun within in
    grind arith

pub loop-account-preserved : goal.loop-account-preserved
loop-account-preserved c = grind (arith, common_steps)

pub returns : goal.returns
returns c = grind (arith, common_steps)

pub loop-account-init : goal.loop-account-init
loop-account-init c = grind (arith, common_steps)
