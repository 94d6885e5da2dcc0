use Rattle.std.proofs.Common.{◌≡◌, ℕ, ◌<◌, [], get_or, length}
use Rattle.at_commands.proofs.Prelude.{contents_of}
use Rattle.at_commands.proofs.delivering.counts_of.Given as goal

-- so many counts are set
abbrev pub invariant-loop-p : goal.invariant-loop-p
invariant-loop-p l = record {
  sized : length l.counts ≡ length l.files;
  set : (m : ℕ) → m < l.p → get_or l.counts m 0 ≡ length (get_or (contents_of l.files) m []);
}
