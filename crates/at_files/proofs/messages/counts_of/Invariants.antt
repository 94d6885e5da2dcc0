use Rattle.std.proofs.Common.{◌≡◌, ℕ, ◌<◌, get_or, length}
use Rattle.at_files.proofs.messages.counts_of.Given as goal

-- so many counts are set
abbrev pub invariant-loop-p : goal.invariant-loop-p
invariant-loop-p l = record {
  sized : length l.counts ≡ length l.deps;
  set : (m : ℕ) → m < l.p → get_or l.counts m 0 ≡ get_or l.deps m 0;
}
