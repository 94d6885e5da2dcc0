use Rattle.at_commands.proofs.GeneratedBook.{account_fault-joint}
use Rattle.at_commands.proofs.generating.make_book.Goals as goal

pub add_account-requires : goal.add_account-requires
add_account-requires c =
    rw (c.in_ok-builder.ensures, c.from.ensures, c.from-2.ensures, c.as_slice.ensures.value, c.in_ok-owners.ensures)
    (account_fault-joint c.args.processes c.args.calls c.requires)
