use Rattle.std.proofs.Common.{◌≡◌, map, take}
use Rattle.at_broadcast.proofs.Prelude.{single_of}
use Rattle.at_broadcast.proofs.log_book.LogBook.of_singles.Given as goal

abbrev pub invariant-loop-account : goal.invariant-loop-account
invariant-loop-account l = l.accounts.items ≡ map single_of (take l.account l.book.accounts)
