use Rattle.std.proofs.Common.{◌≡◌, take}
use Rattle.at_broadcast.proofs.Prelude.{MakesRoom}
use Rattle.at_broadcast.proofs.sender.Sender.make_room.Given as goal

abbrev pub invariant-loop-i : goal.invariant-loop-i
invariant-loop-i l = record {
  messages : l.self-inside.messages ≡ l.fn.self.messages;
  made : MakesRoom (take l.i l.targets) l.fn.self (record { messages = l.self-inside.messages; credits = l.self-inside.credits.items });
}
