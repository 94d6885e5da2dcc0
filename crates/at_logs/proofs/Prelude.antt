-- What this crate's proofs name of other crates and of its definitions, in one place.
pub use Rattle.std.proofs.Math.Bridge.{le_prop}
pub use Rattle.std.proofs.Math.Logic.{∥∥₁_elim, ∥∥₁_map}
pub use Rattle.std.proofs.lemmas.Bool.{cases_eq, cases_lt, eq-eqb, eqb-false, eqb-true, le-ltb, lt-ltb, ltb-false, ltb-true}
pub use Rattle.std.proofs.lemmas.Bool.Decides.{eqb_tells, leb_tells, nat_tests}
pub use Rattle.std.proofs.lemmas.List.{append-nil, drop-append-le, drop-drop, drop_at, ext_get_or, get_or-append-add, get_or-drop, get_or-replicate, get_or-take, get_or_default, get_or_past, get_or_read, length-append, length-map, length-replicate, length-set, length-take, map-append, map-set, nil_from_length, set-get_or, set-set, take-append-drop, take_all, take_at, take_more, take_more_set}
pub use Rattle.std.proofs.lemmas.List.FromFn.{get_or-map-range_with_len, length-map-range_with_len, length-range_with_len, map-range_with_len_more, sum_by-map-range_with_len_more}
pub use Rattle.std.proofs.lemmas.List.Sums.{get_or-le-sum_by, sum_by-append, sum_by-cons, sum_by-drop_more, sum-map, sum_by_more, sum_by_more_le, sum_by_more_le_part}
pub use Rattle.std.proofs.lemmas.List.Elements.{All-append, All-from_recursion, All-head, All-tail, recursion_from_All}
pub use Rattle.std.proofs.lemmas.Nat.{be_bytes_4, be_bytes_8, from_be_bytes-to_be_bytes_4, from_be_bytes-to_be_bytes_8}
pub use Rattle.std.proofs.Math.Nat.{ℕ_set}
pub use Rattle.std.proofs.Math.Seq.{map-set_same}
pub use Rattle.std.specs.Result.{OnErr, OnOk}
pub use Rattle.std.specs.Option.{option_copied}
pub use Rattle.std.proofs.lemmas.Grind.{same_number_lists}
pub use Rattle.std.proofs.lemmas.Option.{cond_some, get_or_from_slice_get, same_Some, slice_get-get_or, slice_get_past, slice_get_within}
pub use Rattle.std.specs.List.{All, AllByRecursion, flat_map, range_with_len}
pub use Rattle.at_broadcast.proofs.MessageLaws.{Reached-with_place, message_of-listed, message_of-unlisted}
pub use Rattle.at_base.specs.Counts.{Covers}
pub use Rattle.at_broadcast.proofs.ReachedLaws.{IsCounted, IsCounted-Reached, after-Reached, below-Reached, get_or-zeros, length-Reached, one_more_of-ge, one_more_of-le}
pub use Rattle.at_broadcast.proofs.NodeLaws.{AgreesWithAll-IsNode, HasPrefixes-IsNode, IsClosed-IsNode, IsSolvent-IsNode, ShowsBalances-IsNode}
pub use Rattle.at_broadcast.proofs.BalanceLaws.{balance_at-covers, covers-from_balance_at}
pub use Rattle.at_broadcast.proofs.RangeLaws.{range-one, range-sum}
pub use Rattle.at_broadcast.proofs.SumLaws.{list_of-other, list_of-same, part, sum_of_first-le, sum_of_first-one_more_of, sum_of_first-with_place}
pub use Rattle.at_broadcast.proofs.ProgressLaws.{delivered-process, differ, left-one_more_of, moved-same, went-deps}
pub use Rattle.at_broadcast.proofs.MoveLaws.{amount_if, amount_if-other, get_or-less, get_or-moved, length-moved, moved, sum-less, sum-moved}
pub use Rattle.at_broadcast.proofs.StartLaws.{IsProgress-new, IsSteady-IsProgress, messages_of-new, none-start}
pub use Rattle.at_broadcast.specs.TwoNodes.{Extends}
pub use Rattle.at_broadcast.proofs.TwoNodes.{IsFinal-IsNode, KeepsUp-IsNode, SharesBalances-IsNode, SharesPrefixes-IsNode}
pub use Rattle.at_broadcast.specs.LogBook.{IsLogBook, LogTerms, account_on_logs, most_logs, total_on_logs}
pub use Rattle.at_broadcast.specs.Messages.{IsMessageOn, MessageList, amount_to, list_of, sum_of_first, message_at, message_credit, message_debit, message_of, no_messages, with_message, with_messages}
pub use Rattle.at_broadcast.specs.Node.{IsNode, IsSteady, NodeState, left, starting_state}
pub use Rattle.at_broadcast.specs.Validated.{IsValid, Reached, balance_at, came, one_more_of, went}
pub use Rattle.at_broadcast.specs.Validated.Reached.{raise, zeros}
pub use Rattle.at_broadcast.specs.declared.log_book.LogAccount.{LogAccount}
pub use Rattle.at_broadcast.specs.declared.payout.Payout.{Payout}
pub use Rattle.at_broadcast.specs.declared.message.Message.{Message}
pub use Rattle.at_broadcast.specs.declared.message.TheConstants.{MESSAGES_MAX}
pub use Rattle.at_ledger.specs.Account.{AccountTerms, is_shared, no_account}
pub use Rattle.at_ledger.specs.Book.{BookTerms, IsBook, account_of, is_owner, total_of}
pub use Rattle.at_ledger.specs.Call.{AreTargetsOn, TargetPair, amount_of}
pub use Rattle.at_logs.specs.Draft.{CanPay, IsDraft, IsFinalAt, payment_entry}
pub use Rattle.at_logs.specs.Answers.{ComesNext, Fits, HasTaken, IsAnswerAt, IsOneAnswer, IsPassed, IsSource, LeavesAfter, SpellsEntry, entry_book, passed_over, tail_after}
pub use Rattle.at_logs.specs.Logs.{log_account, logs_of, shared_among}
pub use Rattle.at_logs.specs.Reading.{IsHistoryOf, IsReading, IsRecord, IsTail, NodeTerms, ReadingState, WhateverRead, no_tail, opened_node, opened_terms, read_state, shown, tail_of, nothing_read}
pub use Rattle.at_logs.specs.SameLogs.{AgreesOnLogs, FollowsOnLogs, HasReadLogs, HasReadAsMuch, LogBytes, ReadBoth, ReadsGrown, ReadsOn, SharesBalancesOnLogs, SharesPrefixesOnLogs, TakesFrom}
pub use Rattle.at_logs.specs.SameLogs.HasReadLogs.{opened, taken, told}
pub use Rattle.at_logs.specs.Telling.{IsNextWithin, IsUntold, TellsLegally}
pub use Rattle.at_logs.specs.declared.node.Answer.{Answer}
pub use Rattle.at_logs.specs.declared.node.Answer.TheVariants.{Taken, NotAnEntry, Forked, Gap, Again}
pub use Rattle.at_logs.specs.declared.node.Draft.{Draft}
pub use Rattle.at_logs.specs.declared.tail.Tail.{Tail}
pub use Rattle.at_logs.specs.Entry.{AreBytes, EntryTerms, HasBytes, HasMessageBytes, IsEntryOn, entry_bytes, entry_version, head_bytes, listed_bytes, message_bytes, message_in_log, messages_in_log, most_in_entry, target_bytes}
pub use Rattle.at_logs.specs.Compact.{AreNextDeps, BacklogState, CompactState, HasRisingDeps, HasCreditRoom, IsBacklog, IsCompact, IsCreditOf, IsKeptOf, IsSettledFrom, IsPayable, IsNextMade, IsSettledUpTo, IsStuck, IsStuckIn, RoomyBacklog, SettlesFrom, ValidatesFrom, backlog_credited, backlog_of, backlog_settled, backlog_told, backlog_with, credit_below, credit_to, credits_of, is_below, is_log, kept_of, named_among, needed, new_backlog, new_state, next_message, no_backlog, room_of, state_of, waiting_of, whole_node}
pub use Rattle.at_logs.specs.Compact.IsSettledUpTo.{message, nothing}
pub use Rattle.at_logs.specs.declared.credits.Credit.{Credit}
pub use Rattle.at_logs.specs.Readers.{Reader, ◌>>=◌, read_after, read_below, read_listed, read_made, read_number, read_pair, read_raw, read_whole}
unfoldable pub use Rattle.at_logs.specs.Readers.{read_items, read_target, read_message, read_head, read_entry}
pub use Rattle.at_logs.specs.declared.entry.EntryMessage.{EntryMessage}
pub use Rattle.at_logs.specs.declared.reading.Head.{Head}
pub use Rattle.at_ledger.specs.Limits.{most_processes, most_targets}
pub use Rattle.sha2.specs.Sha256.{sha256}
pub use Rattle.at_logs.specs.declared.node.Told.{Told}
unfoldable pub use Rattle.at_logs.specs.Saved.{read_kept_message, read_credit, read_backlog, read_tail, read_core, read_front, read_saved}
pub use Rattle.at_logs.specs.Saved.{IsSaved, IsSavedCore, NamesSaved, SavedTerms, read_many, saved_bytes}
pub use Rattle.at_logs.specs.declared.restoring.Front.{Front}
