use Rattle.std.proofs.Common.{arith}
use Rattle.at_ledger.proofs.Prelude.{common_steps}
use Rattle.at_ledger.proofs.book.Book.opening.Goals as goal

pub index-requires : goal.index-requires
index-requires c = grind (arith, common_steps)
