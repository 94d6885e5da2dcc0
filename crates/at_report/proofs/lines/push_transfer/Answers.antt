use Rattle.std.proofs.Common.{arith}
use Rattle.at_report.proofs.Prelude.{common_steps}
use Rattle.at_report.proofs.lines.push_transfer.Goals as goal

pub returns-clause-begun : goal.returns-clause-begun
returns-clause-begun c = grind (arith, common_steps)

pub returns-in_err-push_word-2-clause-begun : goal.returns-in_err-push_word-2-clause-begun
returns-in_err-push_word-2-clause-begun c = grind (arith, common_steps)

pub returns-clause-text : goal.returns-clause-text
returns-clause-text c = grind (arith, common_steps)

pub returns-in_err-push_word-3-clause-begun : goal.returns-in_err-push_word-3-clause-begun
returns-in_err-push_word-3-clause-begun c = grind (arith, common_steps)
