use Rattle.std.proofs.Common.{arith}
use Rattle.at_io.proofs.Prelude.{common_steps}
use Rattle.at_io.proofs.std_sink.StdSinkSink.write.Goals as goal

pub returns-clause-some : goal.returns-clause-some
returns-clause-some g c some = omega arith

pub returns-clause-bound : goal.returns-clause-bound
returns-clause-bound c = grind (arith, common_steps)

pub returns-then-is_empty-clause-some : goal.returns-then-is_empty-clause-some
returns-then-is_empty-clause-some c = grind (arith, common_steps)

pub returns-clause-later : goal.returns-clause-later
returns-clause-later c = grind (arith, common_steps)

pub returns-clause-prefix : goal.returns-clause-prefix
returns-clause-prefix c = grind (arith, common_steps)
