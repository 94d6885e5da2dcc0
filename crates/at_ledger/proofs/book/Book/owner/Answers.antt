use Rattle.std.proofs.Common.{◌≡◌, get_or, arith}
use Rattle.at_ledger.proofs.Prelude.{common_steps, IsBegun, account_of}
use Rattle.at_ledger.proofs.Slots.{slot_in-owner}
use Rattle.at_ledger.proofs.book.Book.owner.Goals as goal

pub returns-clause-slot : goal.returns-clause-slot
returns-clause-slot c =
    let begun : IsBegun c.args.self.now = rw (← c.self.view_is) c.self.invariant.begun in
    let same : get_or c.deref.result.now c.args.slot 0 ≡ get_or (account_of c.args.self.now c.args.account).owners c.args.slot 0 = grind (arith, common_steps) in
    rw same (slot_in-owner c.args.self.now c.args.account c.args.slot begun c.requires.account_in c.requires.slot_in)

pub bounds-deref-slot : goal.bounds-deref-slot
bounds-deref-slot c = grind (arith, common_steps)

pub returns-clause-known : goal.returns-clause-known
returns-clause-known c = grind (arith, common_steps)

pub index-requires : goal.index-requires
index-requires c = grind (arith, common_steps)

pub returns-clause-owner : goal.returns-clause-owner
returns-clause-owner c = grind (arith, common_steps)
