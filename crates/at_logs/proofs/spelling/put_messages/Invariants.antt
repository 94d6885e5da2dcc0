use Rattle.std.proofs.Common.{◌≡◌, ◌+◌, ◌*◌, ◌≤◌, ◌∷◌, ◌++◌, length, take, ℕ, ◌<◌, get_or}
use Rattle.at_logs.specs.Prelude.{flat_map}
use Rattle.at_logs.specs.Entry.{HasMessageBytes, message_bytes}
use Rattle.at_logs.specs.declared.entry.EntryMessage.{EntryMessage}
use Rattle.at_logs.proofs.spelling.put_messages.Given as goal

abbrev pub invariant-loop-message : goal.invariant-loop-message
invariant-loop-message l = record {
  spelled : l.out.items ≡ l.fn.out.items ++ (length l.messages ∷ flat_map message_bytes (take l.message-index l.messages));
  long : length l.out.items ≤ length l.fn.out.items + 1 + 69 * l.message-index;
  fits : (k : ℕ) (d : EntryMessage) → k < l.message-index → HasMessageBytes (get_or l.messages k d);
}
