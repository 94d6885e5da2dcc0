-- What this crate's contracts and definitions name of other crates, in one place.
pub use Rattle.at_files.specs.Names.{AreNamesOf, NameList, account_name}
pub use Rattle.at_ledger.specs.Account.{is_shared}
pub use Rattle.at_ledger.specs.Book.{BookTerms, account_of, total_of}
pub use Rattle.at_ledger.specs.Call.{AreTargetsOn, target_at}
pub use Rattle.at_ledger.specs.Files.{contents_of}
pub use Rattle.at_ledger.specs.declared.call.Call.TheVariants.{Pay}
pub use Rattle.at_ledger.specs.declared.call.Call.{Call}
pub use Rattle.at_logs.specs.Calls.{Promises}
pub use Rattle.at_logs.specs.Logs.{logs_of}
pub use Rattle.at_logs.specs.Prelude.{MessageList, most_logs}
pub use Rattle.at_logs.specs.Reading.{IsHistoryOf, IsReading, NodeTerms, ReadingState, WhateverRead, opened_node, read_state, shown, tail_of}
pub use Rattle.at_logs.specs.SameLogs.{HasReadLogs, LogBytes, TakesFrom, TellsOn}
pub use Rattle.at_logs.specs.Telling.{TellsNext}
pub use Rattle.at_logs.specs.declared.node.Answer.TheVariants.{Forked, NotAnEntry, Taken}
pub use Rattle.at_logs.specs.declared.node.Answer.{Answer}
pub use Rattle.at_logs.specs.declared.node.Told.{Told}
pub use Rattle.at_logs.specs.declared.tail.TheConstants.{ENTRIES_MAX}
pub use Rattle.at_report.specs.Lines.{Word, Words, call_words, line_text, lines_text, spaced, targets_words}
pub use Rattle.hex.specs.Hex.{decode_of, encode_lower}
pub use Rattle.hex.specs.declared.error.FromHexError.{FromHexError}
pub use Rattle.std.specs.Global.{Global}
pub use Rattle.std.specs.List.{filter, range_with_len, slice_split}
