use Rattle.std.proofs.Common.{arith}
use Rattle.at_report.proofs.Prelude.{common_steps}
use Rattle.at_report.proofs.refusal.push_numbered.Goals as goal

pub returns-clause-short : goal.returns-clause-short
returns-clause-short c = grind (arith, common_steps)

pub push_decimal-requires : goal.push_decimal-requires
push_decimal-requires c = grind (arith, common_steps)
