use Rattle.std.proofs.Common.{◌≡◌, length, replicate}
use Rattle.at_broadcast.proofs.Prelude.{new_sender}
use Rattle.at_broadcast.proofs.progress.new_senders.Given as goal

abbrev pub invariant-loop-log : goal.invariant-loop-log
invariant-loop-log l = l.senders.items ≡ replicate l._log (new_sender (length l.book.accounts))
