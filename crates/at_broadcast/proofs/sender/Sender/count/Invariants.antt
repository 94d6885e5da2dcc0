use Rattle.std.proofs.Common.{◌≡◌, drop, length}
use Rattle.at_broadcast.proofs.Prelude.{HasRoomFor, message_counted}
use Rattle.at_broadcast.proofs.sender.Sender.count.Given as goal

abbrev pub invariant-loop-i : goal.invariant-loop-i
invariant-loop-i l = record {
  same : message_counted (record { messages = l.self-inside.messages; credits = l.self-inside.credits.items }) l.number (drop l.i l.targets)
      ≡ message_counted l.fn.self l.number l.targets;
  room : HasRoomFor (drop l.i l.targets) l.number (record { messages = l.self-inside.messages; credits = l.self-inside.credits.items });
  sized : length l.self-inside.credits.items ≡ length l.fn.self.credits;
}
