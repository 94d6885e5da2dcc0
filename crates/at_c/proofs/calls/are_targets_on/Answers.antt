use Rattle.std.proofs.Common.{◌<◌, arith}
use Rattle.at_c.proofs.Prelude.{All-from_get_or, TargetPair}
use Rattle.at_c.proofs.calls.are_targets_on.Goals as goal

pub returns-clause-yes : goal.returns-clause-yes
returns-clause-yes c = λ _.
    All-from_get_or (λ (t : TargetPair). t.0 < c.args.accounts) c.args.targets.now (0, 0)
    (λ i within. c.loop-i.invariant i (omega (arith, within, c.loop-i-test.false, c.len-count.ensures.count)))
