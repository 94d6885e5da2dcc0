use Rattle.std.proofs.Common.{◌≡◌, ◌+◌, ◌≤◌, ◌++◌, length, take}
use Rattle.std.specs.VecDeque.{deque_capacity}
use Rattle.at_logs.proofs.backlog.Backlog.extend.Given as goal

abbrev pub invariant-loop-message : goal.invariant-loop-message
invariant-loop-message l = record {
  items : l.self-inside.messages.items ≡ l.initial.self-inside.messages.items ++ take l.message-index l.messages;
  room : length l.self-inside.messages.items + length l.messages ≤ deque_capacity l.self-inside.messages + l.message-index;
  credits : l.self-inside.credits ≡ l.initial.self-inside.credits;
  credit_room : l.self-inside.room ≡ l.initial.self-inside.room;
  settled_at : l.self-inside.settled_at ≡ l.initial.self-inside.settled_at;
}
