use Rattle.std.proofs.Common.{arith}
use Rattle.at_report.proofs.Prelude.{common_steps}
use Rattle.at_report.proofs.run_report.checked_text.Goals as goal

pub returns : goal.returns
returns c = grind (arith, common_steps)
