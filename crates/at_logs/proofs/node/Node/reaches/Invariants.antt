use Rattle.std.proofs.Common.{◌≡◌, ℕ, ◌≤◌, get_or, length}
use Rattle.at_logs.proofs.Prelude.{Covers, Reached, WhateverRead, left}
use Rattle.at_logs.proofs.node.Node.reaches.Given as goal

abbrev pub invariant-loop-log : goal.invariant-loop-log
invariant-loop-log l = record {
  sized : length l.counts ≡ l.self.core.book.logs;
  below : (p : ℕ) → get_or l.counts p 0 ≤ get_or l.told p 0;
  untold : Covers l.counts l.self.core.told;
  reached : WhateverRead l.self (λ s. ∥ Reached s.node.book s.node.messages l.counts ∥₁);
}

abbrev pub decreases-loop-log : goal.decreases-loop-log
decreases-loop-log l = left l.counts
