use Rattle.std.proofs.Common.{arith}
use Rattle.at_ledger.proofs.Prelude.{common_steps}
use Rattle.at_ledger.proofs.state.State.total.Goals as goal

pub returns-clause-checked : goal.returns-clause-checked
returns-clause-checked c = grind (arith, common_steps)

pub returns-clause-balances : goal.returns-clause-balances
returns-clause-balances c = grind (arith, common_steps)

pub returns-clause-openings : goal.returns-clause-openings
returns-clause-openings c = grind (arith, common_steps)

pub sum-requires-clause-fits : goal.sum-requires-clause-fits
sum-requires-clause-fits c = grind (arith, common_steps)
