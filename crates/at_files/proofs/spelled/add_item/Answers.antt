use Rattle.std.proofs.Common.{Err, ap, sym, ◌∙◌, arith}
use Rattle.at_files.proofs.Prelude.{common_steps}
use Rattle.at_files.proofs.SpelledWalk.{Bad-same}
use Rattle.at_files.proofs.spelled.add_item.Goals as goal

pub returns-in-Err : goal.returns-in-Err
returns-in-Err g c = record { ok = tt; bad = λ b same. rw (sym c.item_of.ensures ∙ c.in-Err.is) (ap Err (Bad-same _ b same)) }

pub returns-then-is_err-clause-bad : goal.returns-then-is_err-clause-bad
returns-then-is_err-clause-bad c = grind (arith, common_steps)

pub returns-clause-bad : goal.returns-clause-bad
returns-clause-bad c = grind (arith, common_steps)

pub returns-clause-ok : goal.returns-clause-ok
returns-clause-ok c = grind (arith, common_steps)
