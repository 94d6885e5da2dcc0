use Rattle.std.proofs.Common.{arith}
use Rattle.at_ledger.proofs.Prelude.{common_steps}
use Rattle.at_ledger.proofs.book.Book.slot_of.Goals as goal

pub index-requires : goal.index-requires
index-requires c = grind (arith, common_steps)

pub returns-clause-within : goal.returns-clause-within
returns-clause-within c = grind (arith, common_steps)

pub returns-clause-owner : goal.returns-clause-owner
returns-clause-owner c = grind (arith, common_steps)
