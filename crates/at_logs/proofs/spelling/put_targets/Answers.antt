use Rattle.std.proofs.Common.{◌<◌, ◌^◌, subst, arith}
use Rattle.at_logs.proofs.Prelude.{TargetPair, get_or_default}
use Rattle.at_logs.proofs.spelling.put_targets.Goals as goal

pub returns-clause-fits : goal.returns-clause-fits
returns-clause-fits c k d within =
    subst (λ (t : TargetPair). t.1 < 2 ^ 64) (get_or_default c.args.targets.now k (0, 0) d within)
    (c.loop-i.invariant.fits k (omega (arith, within, c.loop-i-test.false, c.loop-i.auto.i-end, c.len-i-end.ensures.count)))
