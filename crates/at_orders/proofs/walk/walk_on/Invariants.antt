use Rattle.std.proofs.Common.{◌+◌, ◌-◌}
use Rattle.at_orders.proofs.Prelude.{contents_of, IsWalked}
use Rattle.at_orders.proofs.walk.walk_on.Given as goal

abbrev pub invariant-loop-alloc : goal.invariant-loop-alloc
invariant-loop-alloc l = IsWalked l.ground l.trail (contents_of l.done.replies.items) l.done.spans.items l.left

abbrev pub decreases-loop-alloc : goal.decreases-loop-alloc
decreases-loop-alloc l = l.left + (l.trail.begun - l.trail.looked)
