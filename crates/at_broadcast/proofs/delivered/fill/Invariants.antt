use Rattle.std.proofs.Common.{◌≡◌, ◌≤◌, length}
use Rattle.at_broadcast.proofs.Prelude.{filled, MESSAGES_MAX}
use Rattle.at_broadcast.proofs.delivered.fill.Given as goal

abbrev pub invariant-loop-place : goal.invariant-loop-place
invariant-loop-place l = record {
  same : filled l.messages.items ≡ filled l.initial.messages.items;
  few : length l.messages.items ≤ MESSAGES_MAX;
  reached : length l.messages.items ≡ l._place;
}
