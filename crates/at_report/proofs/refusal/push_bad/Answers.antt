use Rattle.std.proofs.Common.{arith}
use Rattle.at_report.proofs.Prelude.{common_steps}
use Rattle.at_report.proofs.refusal.push_bad.Goals as goal

pub returns-clause-short : goal.returns-clause-short
returns-clause-short c = grind (arith, common_steps)

pub push_line_and_cause-requires-clause-room : goal.push_line_and_cause-requires-clause-room
push_line_and_cause-requires-clause-room c = grind (arith, common_steps)
