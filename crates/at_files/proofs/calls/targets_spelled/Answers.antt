use Rattle.std.proofs.Common.{sym, ◌∙◌}
use Rattle.at_files.proofs.TargetLaws.{AreTaken-first, AreTaken-more, targets_spelled-first_missing, targets_spelled-missing, targets_spelled-taken}
use Rattle.at_files.proofs.calls.targets_spelled.Goals as goal

pub returns-in_default : goal.returns-in_default
returns-in_default c =
    sym (targets_spelled-first_missing _ _ _ c.target_count-count.ensures.fields c.target_count-count.ensures.some (sym c.target_of.ensures.target ∙ c.in_default.is))

pub loop-i-init : goal.loop-i-init
loop-i-init c =
    rw c.one-targets.ensures
    (AreTaken-first _ _ _ _ c.target_count-count.ensures.fields c.target_count-count.ensures.some (sym c.target_of.ensures.target ∙ c.in-Some.is))

pub returns-in_default-target_of : goal.returns-in_default-target_of
returns-in_default-target_of c =
    sym (targets_spelled-missing _ _ c.loop-i.targets c.loop-i.i _ c.loop-i.invariant c.target_count-count.ensures.fields c.loop-i-test.true
    (sym c.target_of-in-loop-i.ensures.target ∙ c.in_default-target_of.is))

pub loop-i-preserved : goal.loop-i-preserved
loop-i-preserved c =
    rw c.push.ensures
    (AreTaken-more _ _ c.loop-i.targets c.loop-i.i _ _ c.loop-i.invariant c.target_count-count.ensures.fields c.loop-i-test.true
    (sym c.target_of-in-loop-i.ensures.target ∙ c.in-Some-target_of.is))

pub returns : goal.returns
returns c = sym (targets_spelled-taken _ _ c.loop-i.targets c.loop-i.i _ c.loop-i.invariant c.target_count-count.ensures.fields c.loop-i-test.false)
