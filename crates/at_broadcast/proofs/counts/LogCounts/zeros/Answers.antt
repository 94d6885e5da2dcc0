use Rattle.at_broadcast.proofs.Prelude.{take-replicate}
use Rattle.at_broadcast.proofs.counts.LogCounts.zeros.Goals as goal

pub returns : goal.returns
returns c = take-replicate c.args.n 64 0 c.requires.few
