use Rattle.std.proofs.Common.{arith}
use Rattle.std.proofs.lemmas.Grind.{common_steps}
use Rattle.at_logs.specs.Snapshot.{HasKeptMessageBytes}
use Rattle.at_logs.proofs.SavingLaws.{fits_more}
use Rattle.at_logs.proofs.saving.put_messages.Goals as goal

pub loop-i-preserved : goal.loop-i-preserved
loop-i-preserved c = record {
  spelled = grind (arith, common_steps);
  fits = fits_more HasKeptMessageBytes c.args.messages.now.items c.loop-i.i c.index.result.now (omega arith) c.index.ensures c.in_ok-put_message.ensures.fits c.loop-i.invariant.fits;
}
