use Rattle.std.proofs.Common.{arith}
use Rattle.at_report.proofs.Prelude.{common_steps}
use Rattle.at_report.proofs.refusal.push_decimal.Goals as goal

pub returns-clause-short : goal.returns-clause-short
returns-clause-short c = grind (arith, common_steps)
