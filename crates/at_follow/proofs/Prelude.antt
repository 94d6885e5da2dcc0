-- What this crate's proofs name of other crates and of its definitions, in one place.
pub use Rattle.at_broadcast.proofs.ProgressLaws.{delivered-process, differ, left-one_more_of}
pub use Rattle.at_broadcast.specs.LogBook.{LogTerms}
pub use Rattle.at_broadcast.specs.Messages.{IsMessageOn, MessageList, list_of, message_of}
pub use Rattle.at_broadcast.specs.Node.{NodeState, left}
pub use Rattle.at_broadcast.specs.Validated.{one_more_of}
pub use Rattle.at_broadcast.specs.declared.message.Message.{Message}
pub use Rattle.at_broadcast.specs.declared.message.TheConstants.{MESSAGES_MAX}
pub use Rattle.at_files.specs.Names.{NameList}
pub use Rattle.at_follow.specs.FollowText.{entry_fault_words, log_line, log_word, log_words, node_account_words, section, shared_below, shared_word, told_words}
pub use Rattle.at_follow.specs.Following.{GoesThrough, HasToldAll, IsFollowing, IsGiven, IsToldOn, TellsEach, entries_at, log_bytes}
pub use Rattle.at_follow.specs.LogFile.{is_written}
pub use Rattle.at_follow.specs.declared.following.EntryFault.{EntryFault}
pub use Rattle.at_ledger.proofs.FileLists.{contents_of-push, get_or-contents_of, length-contents_of}
pub use Rattle.at_ledger.specs.Account.{AccountTerms, is_shared, no_account}
pub use Rattle.at_ledger.specs.Book.{BookTerms, account_of, total_of}
pub use Rattle.at_ledger.specs.Call.{AreTargetsOn}
pub use Rattle.at_ledger.specs.Files.{contents_of}
pub use Rattle.at_ledger.specs.declared.call.Call.TheVariants.{Pay}
pub use Rattle.at_logs.proofs.ReadingLaws.{accounts-logs_of}
pub use Rattle.at_logs.proofs.TellingLaws.{length-told}
pub use Rattle.at_logs.specs.Answers.{IsAnswerAt, IsOneAnswer, LeavesAfter}
pub use Rattle.at_logs.specs.Calls.{HasAnswered, HasTold}
pub use Rattle.at_logs.specs.Logs.{logs_of, shared_among}
pub use Rattle.at_logs.specs.Prelude.{most_logs}
pub use Rattle.at_logs.specs.Reading.{IsHistoryOf, IsReading, NodeTerms, ReadingState, WhateverRead, no_tail, nothing_read, opened_node, opened_terms, read_state, shown, tail_of}
pub use Rattle.at_logs.specs.SameLogs.{HasReadLogs, LogBytes, StandsAt, TellsOn}
pub use Rattle.at_logs.specs.Telling.{IsUntold}
pub use Rattle.at_logs.specs.declared.node.Answer.TheVariants.{Again, Forked, Gap, NotAnEntry, Taken}
pub use Rattle.at_logs.specs.declared.node.Answer.{Answer}
pub use Rattle.at_logs.specs.declared.node.Told.{Told}
pub use Rattle.at_logs.specs.declared.tail.Tail.{Tail}
pub use Rattle.at_logs.specs.declared.tail.TheConstants.{ENTRIES_MAX}
pub use Rattle.at_report.proofs.LineLaws.{line_text-parts, line_text-spaced, lines_text-map_more}
pub use Rattle.at_report.specs.Lines.{Word, Words, call_words, line_text, lines_text, spaced, targets_words}
pub use Rattle.hex.specs.Hex.{decode_of, encode_lower}
pub use Rattle.hex.specs.declared.error.FromHexError.{FromHexError}
pub use Rattle.std.proofs.lemmas.Bool.{cases_lt, eqb-true}
pub use Rattle.std.proofs.lemmas.Grind.{common_steps}
pub use Rattle.std.proofs.lemmas.Iterator.Consumers.{YieldsList-at, YieldsList-end, YieldsList-turn}
pub use Rattle.std.proofs.lemmas.Iterator.Splits.{YieldsList-from_slice_split}
pub use Rattle.std.proofs.lemmas.List.Elements.{All-append, All-cons, All-nil, filter-append}
pub use Rattle.std.proofs.lemmas.List.FromFn.{length-range_with_len, map-range_with_len_more}
pub use Rattle.std.proofs.lemmas.List.Sums.{sum_by_more, sum_by_more_le}
pub use Rattle.std.proofs.lemmas.List.{append-nil, drop_all, drop_more, get_or-map, get_or-replicate, get_or_past, length-append, length-map, length-replicate, length_push, map-append, map-id, nil_from_length, take_all, take_more}
pub use Rattle.std.proofs.lemmas.Option.{cond_some, slice_get-get_or}
pub use Rattle.std.specs.Global.{Global}
pub use Rattle.std.specs.List.{All, filter, range_with_len, slice_split}
