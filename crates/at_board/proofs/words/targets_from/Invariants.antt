use Rattle.std.proofs.Common.{◌≡◌, ℕ, ◌*◌, ◌<◌, get_or, length}
use Rattle.at_board.proofs.Prelude.{account_in}
use Rattle.at_board.proofs.words.targets_from.Given as goal

-- so many targets are made
abbrev pub invariant-loop-k : goal.invariant-loop-k
invariant-loop-k l = record {
  some : 0 < l.k;
  sized : length l.targets ≡ l.k;
  made : (m : ℕ) → m < l.k → get_or l.targets m (0, 0) ≡ (account_in l.word (10 * m), get_or l.amounts m 0);
}
