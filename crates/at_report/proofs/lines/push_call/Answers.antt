use Rattle.std.proofs.Common.{arith}
use Rattle.at_report.proofs.Prelude.{common_steps}
use Rattle.at_report.proofs.lines.push_call.Goals as goal

pub returns-in_ok-push_word-in-Pay-2-clause-begun : goal.returns-in_ok-push_word-in-Pay-2-clause-begun
returns-in_ok-push_word-in-Pay-2-clause-begun c = grind (arith, common_steps)

pub returns-in_ok-push_word-in-Pay-2-clause-text : goal.returns-in_ok-push_word-in-Pay-2-clause-text
returns-in_ok-push_word-in-Pay-2-clause-text c = grind (arith, common_steps)

pub returns-in_ok-push_word-in-Read-clause-begun : goal.returns-in_ok-push_word-in-Read-clause-begun
returns-in_ok-push_word-in-Read-clause-begun c = grind (arith, common_steps)

pub returns-in_err-push_word-in-Pay-2-clause-begun : goal.returns-in_err-push_word-in-Pay-2-clause-begun
returns-in_err-push_word-in-Pay-2-clause-begun c = grind (arith, common_steps)

pub push_targets-requires : goal.push_targets-requires
push_targets-requires c = grind (arith, common_steps)

pub returns-in_ok-push_word-in-Read-clause-text : goal.returns-in_ok-push_word-in-Read-clause-text
returns-in_ok-push_word-in-Read-clause-text c = grind (arith, common_steps)
