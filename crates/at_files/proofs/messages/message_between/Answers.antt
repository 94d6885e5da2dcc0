use Rattle.std.proofs.Common.{arith}
use Rattle.at_files.proofs.Prelude.{common_steps}
use Rattle.at_files.proofs.messages.message_between.Goals as goal

pub overflow_cast-to : goal.overflow_cast-to
overflow_cast-to c = grind (arith, common_steps)

pub one-requires : goal.one-requires
one-requires c = grind (arith, common_steps)

pub counts_of-requires-clause-few : goal.counts_of-requires-clause-few
counts_of-requires-clause-few c = grind (arith, common_steps)

pub returns-in_default : goal.returns-in_default
returns-in_default c = grind (arith, common_steps)

pub counts_of-requires-clause-some : goal.counts_of-requires-clause-some
counts_of-requires-clause-some c = grind (arith, common_steps)

pub returns : goal.returns
returns c = grind (arith, common_steps)

pub overflow_cast-result : goal.overflow_cast-result
overflow_cast-result c = grind (arith, common_steps)
