use Rattle.std.proofs.Common.{Err, ◌∙◌, ap, refl, arith}
use Rattle.at_files.proofs.Prelude.{common_steps}
use Rattle.at_files.proofs.SpelledWalk.{AreSpelled-start, AreSpelled-more, AreSpelled-end, AreSpelled-bad, AreSpelled-many, Bad-same}
use Rattle.at_files.proofs.spelled.read_into.Goals as goal

pub loop-line-init : goal.loop-line-init
loop-line-init g c = rw c.requires.none (AreSpelled-start _ _ _ _ _)

pub loop-line-preserved : goal.loop-line-preserved
loop-line-preserved g c =
    AreSpelled-more _ _ _ _ _ _ _ _ _ _ _ _ c.loop-line.invariant c.if-not-left.false c.in-Ok.ensures.ok (omega arith) c.in_default.ensures.ok

pub returns-then-not-left-clause-ok : goal.returns-then-not-left-clause-ok
returns-then-not-left-clause-ok g c = AreSpelled-end _ _ _ _ _ _ _ _ _ _ c.loop-line.invariant c.if-not-left.true

pub returns-in-Err-clause-bad : goal.returns-in-Err-clause-bad
returns-in-Err-clause-bad g c = λ b same.
    AreSpelled-bad _ _ _ _ _ _ _ _ _ _ b c.loop-line.invariant c.if-not-left.false (omega arith) (c.add_item.ensures.bad b (c.in-Err.is ∙ same))

pub returns-then-left-clause-bad : goal.returns-then-left-clause-bad
returns-then-left-clause-bad g c = λ b same.
    AreSpelled-many _ _ _ _ _ _ _ _ _ _ c.loop-line.invariant c.if-left.true (omega arith) ∙ ap Err (Bad-same _ b same)

pub returns-clause-ok : goal.returns-clause-ok
returns-clause-ok g c = AreSpelled-end _ _ _ _ _ _ _ _ _ _ c.loop-line.invariant c.if-left.false
