use Rattle.std.proofs.Common.{not, sym, ◌∙◌, ap}
use Rattle.at_files.proofs.TargetLaws.{has_amounts-bad, has_amounts-end, has_amounts-more}
use Rattle.at_files.proofs.calls.has_amounts.Goals as goal

pub returns-then-is_none : goal.returns-then-is_none
returns-then-is_none c =
    sym (has_amounts-bad _ _ c.loop-i.i _ c.target_count-i-end.ensures.fields c.loop-i-test.true (rw c.number_at.ensures at (c.is_none.ensures ∙ ap not c.if-is_none.true)) c.loop-i.invariant)

pub loop-i-preserved : goal.loop-i-preserved
loop-i-preserved c =
    has_amounts-more _ _ c.loop-i.i _ c.target_count-i-end.ensures.fields c.loop-i-test.true (rw c.number_at.ensures at (c.is_none.ensures ∙ ap not c.if-is_none.false)) c.loop-i.invariant

pub returns : goal.returns
returns c = sym (has_amounts-end _ _ c.loop-i.i _ c.target_count-i-end.ensures.fields c.loop-i-test.false c.loop-i.invariant)
