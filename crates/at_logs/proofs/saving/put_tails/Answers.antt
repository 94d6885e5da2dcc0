use Rattle.std.proofs.Common.{arith}
use Rattle.std.proofs.lemmas.Grind.{common_steps}
use Rattle.at_logs.specs.Snapshot.{HasTailBytes}
use Rattle.at_logs.proofs.SavingLaws.{fits_more}
use Rattle.at_logs.proofs.saving.put_tails.Goals as goal

pub loop-tail-preserved : goal.loop-tail-preserved
loop-tail-preserved c = record {
  spelled = grind (arith, common_steps);
  fits = fits_more HasTailBytes c.args.tails.now c.loop-tail.tail-index c.tail-item.result c.loop-tail-test.true c.tail-item.is c.in_ok-put_tail.ensures.fits c.loop-tail.invariant.fits;
}
