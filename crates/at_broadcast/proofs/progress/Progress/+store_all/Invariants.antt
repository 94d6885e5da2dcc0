use Rattle.std.proofs.Common.{length}
use Rattle.at_broadcast.proofs.progress.Progress.+store_all.Given as goal

abbrev pub decreases-store_all : goal.decreases-store_all
decreases-store_all l = length l.messages.now
