use Rattle.std.proofs.Common.{arith}
use Rattle.at_ledger.proofs.Prelude.{common_steps}
use Rattle.at_ledger.proofs.state.State.balance.Goals as goal

pub index-requires : goal.index-requires
index-requires c = grind (arith, common_steps)

pub returns-clause-checked : goal.returns-clause-checked
returns-clause-checked c = grind (arith, common_steps)

pub returns-clause-balance : goal.returns-clause-balance
returns-clause-balance c = grind (arith, common_steps)
