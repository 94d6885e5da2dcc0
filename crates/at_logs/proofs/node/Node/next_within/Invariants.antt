use Rattle.std.proofs.Common.{ℕ, ◌<◌}
use Rattle.at_logs.proofs.Prelude.{IsNextWithin, Reached, WhateverRead}
use Rattle.at_logs.proofs.node.Node.next_within.Given as goal

abbrev pub invariant-loop-log : goal.invariant-loop-log
invariant-loop-log l = (p : ℕ) → p < l.log → WhateverRead l.self (λ s. ∥ Reached s.node.book s.node.messages l.counts ∥₁ → ¬ IsNextWithin s.node l.counts l.told p)
