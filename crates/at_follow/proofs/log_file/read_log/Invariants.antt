use Rattle.std.proofs.Common.{length, map}
use Rattle.at_follow.proofs.LogFileLaws.{IsReadTo}
use Rattle.at_follow.proofs.log_file.read_log.Given as goal

abbrev pub invariant-loop-text : goal.invariant-loop-text
invariant-loop-text l = IsReadTo l.bytes (length l.yielded) l.line (map (λ entry. entry.items) l.entries.items)
