use Rattle.at_commands.proofs.GeneratedBook.{account_fault-own, with_account-book_of_own_accounts}
use Rattle.at_commands.proofs.generating.own_accounts.Goals as goal

pub add_account-requires : goal.add_account-requires
add_account-requires c =
    rw (c.loop-process.invariant, c.from-room.ensures, c.from-in-loop-process.ensures)
    (account_fault-own c.args.processes c.args.calls c.loop-process.process c.requires c.loop-process-test.true)

pub loop-process-preserved : goal.loop-process-preserved
loop-process-preserved c =
    let more = with_account-book_of_own_accounts c.args.processes c.args.calls c.loop-process.process in
    rw (c.in_ok-add_account.ensures, c.loop-process.invariant, c.from-room.ensures, c.from-in-loop-process.ensures) more
