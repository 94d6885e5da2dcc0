use Rattle.std.proofs.Common.{ℕ, ◌<◌}
use Rattle.at_logs.proofs.Prelude.{IsValid, Message, WhateverRead}
use Rattle.at_logs.proofs.node.Node.untold.Given as goal

abbrev pub invariant-loop-log : goal.invariant-loop-log
invariant-loop-log l = (p : ℕ) → p < l.log → WhateverRead l.self (λ s. (m : Message) → ¬ IsValid s.node.book s.node.messages s.told p m)
