use Rattle.std.proofs.Common.{arith}
use Rattle.at_ledger.proofs.Prelude.{common_steps}
use Rattle.at_ledger.proofs.state.State.move_amounts.Goals as goal

pub credit-requires-clause-targets_in : goal.credit-requires-clause-targets_in
credit-requires-clause-targets_in c = grind (arith, common_steps)

pub returns : goal.returns
returns c = grind (arith, common_steps)

pub credit-requires-clause-fits : goal.credit-requires-clause-fits
credit-requires-clause-fits c = grind (arith, common_steps)

pub index_mut-requires : goal.index_mut-requires
index_mut-requires c = grind (arith, common_steps)

pub invariant_of-self : goal.invariant_of-self
invariant_of-self c = grind (arith, common_steps)
