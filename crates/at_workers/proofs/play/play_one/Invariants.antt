use Rattle.std.proofs.Common.{◌≡◌, length}
use Rattle.at_workers.proofs.Played.{HasPlayed}
use Rattle.at_workers.proofs.play.play_one.Given as goal

abbrev pub invariant-loop-index : goal.invariant-loop-index
invariant-loop-index g l = HasPlayed l.fn.ledger l.fn.job l.job l._index × (l._index-end ≡ length l.fn.job.calls)
