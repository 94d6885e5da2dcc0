use Rattle.std.proofs.Common.{◌≡◌, map}
use Rattle.at_logs.proofs.Prelude.{range_with_len, message_in_log}
use Rattle.at_logs.proofs.entry.Entry.messages_in_log.Given as goal

abbrev pub invariant-loop-i : goal.invariant-loop-i
invariant-loop-i l = l.messages.items ≡ map (message_in_log l.self l.log) (range_with_len 0 l.i)
