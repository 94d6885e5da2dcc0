use Rattle.std.proofs.Common.{◌≡◌, ℕ, ◌≤◌, get_or}
use Rattle.at_logs.proofs.Prelude.{IsHistoryOf, WhateverRead, left, read_state}
use Rattle.at_logs.proofs.node.Node.tell_to.Given as goal

abbrev pub invariant-loop-log : goal.invariant-loop-log
invariant-loop-log l = record {
  book : l.self.core.book ≡ l.initial.self.core.book;
  validated : l.self.core.validated ≡ l.initial.self.core.validated;
  below : (p : ℕ) → get_or l.self.core.told p 0 ≤ get_or l.told p 0;
  history : WhateverRead l.initial.self (λ s. IsHistoryOf s.node.messages l.self × (read_state l.self s.node.messages ≡ record s { told = l.self.core.told }));
}

abbrev pub decreases-loop-log : goal.decreases-loop-log
decreases-loop-log l = left l.self.core.told
