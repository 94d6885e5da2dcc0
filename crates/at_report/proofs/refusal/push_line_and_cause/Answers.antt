use Rattle.std.proofs.Common.{arith}
use Rattle.at_report.proofs.Prelude.{common_steps}
use Rattle.at_report.proofs.refusal.push_line_and_cause.Goals as goal

pub push_text-requires-2 : goal.push_text-requires-2
push_text-requires-2 c = grind (arith, common_steps)

pub push_decimal-requires : goal.push_decimal-requires
push_decimal-requires c = grind (arith, common_steps)

pub returns-clause-text : goal.returns-clause-text
returns-clause-text c = grind (arith, common_steps)

pub returns-clause-short : goal.returns-clause-short
returns-clause-short c = grind (arith, common_steps)

pub push_text-requires-3 : goal.push_text-requires-3
push_text-requires-3 c = grind (arith, common_steps)
