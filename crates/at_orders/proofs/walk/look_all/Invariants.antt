use Rattle.std.proofs.Common.{◌≡◌, ◌≤◌, length}
use Rattle.at_orders.proofs.Prelude.{contents_of, IsWalking}
use Rattle.at_orders.proofs.walk.look_all.Given as goal

abbrev pub invariant-loop-at : goal.invariant-loop-at
invariant-loop-at l = record {
  walking : IsWalking l.ground l.trail (contents_of l.done.replies.items) l.done.spans.items l.most l.at;
  few : length walking.next ≤ l.most;
  end : l.trail.begun ≡ l.at-end;
}
