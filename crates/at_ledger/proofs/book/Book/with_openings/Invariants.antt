use Rattle.std.proofs.Common.{◌≡◌, map, take}
use Rattle.at_ledger.proofs.Prelude.{zip}
use Rattle.at_ledger.proofs.Carried.{opened}
use Rattle.at_ledger.proofs.book.Book.with_openings.Given as goal

abbrev pub invariant-loop-i : goal.invariant-loop-i
invariant-loop-i l = l.accounts.items ≡ map opened (take l.i (zip l.self.accounts l.openings))
