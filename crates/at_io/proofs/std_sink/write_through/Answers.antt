use Rattle.std.proofs.Common.{arith}
use Rattle.at_io.proofs.Prelude.{common_steps}
use Rattle.at_io.proofs.std_sink.write_through.Goals as goal

pub returns : goal.returns
returns c = grind (arith, common_steps)
