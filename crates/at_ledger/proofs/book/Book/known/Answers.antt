use Rattle.std.proofs.Common.{arith}
use Rattle.at_ledger.proofs.Prelude.{common_steps}
use Rattle.at_ledger.proofs.book.Book.known.Goals as goal

pub returns : goal.returns
returns c = grind (arith, common_steps)
