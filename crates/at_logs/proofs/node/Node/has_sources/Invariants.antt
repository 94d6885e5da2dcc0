use Rattle.std.proofs.Common.{◌≡◌, ℕ, ◌<◌, get_or}
use Rattle.at_logs.proofs.Prelude.{EntryMessage, IsSource, entry_book, shown}
use Rattle.at_logs.proofs.node.Node.has_sources.Given as goal

abbrev pub invariant-loop-message : goal.invariant-loop-message
invariant-loop-message l = record {
  same : l.message-items ≡ l.entry.messages;
  sources : (k : ℕ) (d : EntryMessage) → k < l.message-index → IsSource (entry_book (shown l.self)) l.log l.entry.writer (get_or l.entry.messages k d).from;
}
