use Rattle.at_follow.proofs.Prelude.{WhateverRead, left}
use Rattle.at_follow.proofs.TellingEach.{HasToldSome}
use Rattle.at_follow.proofs.following.tell_all.Given as goal

abbrev pub invariant-loop-told : goal.invariant-loop-told
invariant-loop-told l = WhateverRead l.initial.node (λ s. HasToldSome s l.list.items l.node)

abbrev pub decreases-loop-told : goal.decreases-loop-told
decreases-loop-told l = left l.node.core.told
