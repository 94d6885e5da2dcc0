use Rattle.std.proofs.Common.{arith}
use Rattle.at_report.proofs.Prelude.{common_steps}
use Rattle.at_report.proofs.lines.push_numbered.Goals as goal

pub returns-in_err-extend_from_slice-clause-begun : goal.returns-in_err-extend_from_slice-clause-begun
returns-in_err-extend_from_slice-clause-begun c = grind (arith, common_steps)

pub returns-in_err-push_number-clause-begun : goal.returns-in_err-push_number-clause-begun
returns-in_err-push_number-clause-begun c = grind (arith, common_steps)

pub returns-in_err-push-clause-begun : goal.returns-in_err-push-clause-begun
returns-in_err-push-clause-begun c = grind (arith, common_steps)

pub returns-clause-text : goal.returns-clause-text
returns-clause-text c = grind (arith, common_steps)
