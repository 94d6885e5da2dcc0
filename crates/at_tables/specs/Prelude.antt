-- What this crate's contracts and definitions name of other crates, in one place.
pub use Rattle.std.specs.BTreeMap.{BTreeMap, get_by}
pub use Rattle.std.specs.BTreeSet.{BTreeSet, insert_key}
pub use Rattle.std.specs.Cmp.Lexicographic.{slice_cmp}
pub use Rattle.std.specs.Global.{Global}
pub use Rattle.std.specs.List.{join_with_byte, range_with_len}
pub use Rattle.std.specs.List.Sorted.{IsStrictlySortedBy}
pub use Rattle.std.specs.Ordering.{nat_cmp, ordering_then}
pub use Rattle.std.specs.declared.cmp.Ordering.{Ordering}
pub use Rattle.at_board.specs.Knowledge.Seats.{BoardTerms}
pub use Rattle.at_board.specs.declared.step.BoardStep.{BoardStep}
pub use Rattle.at_board.specs.declared.step.BoardStep.TheVariants.{Exchange, Load, Store}
pub use Rattle.at_board.specs.declared.step.BoardWord.{BoardWord}
pub use Rattle.at_board.specs.declared.step.BoardWord.TheVariants.{Announced, Cell, Length, Record, Request}
pub use Rattle.at_board.specs.declared.words.TheConstants.{RECORD_WORDS}
pub use Rattle.at_files.specs.Names.{AreNamesOf, NameList, account_name, process_name}
pub use Rattle.at_ledger.specs.Account.{AccountTerms, is_owner_in, is_shared, is_single, slots_of}
pub use Rattle.at_ledger.specs.Book.{BookTerms, account_of, total_of}
pub use Rattle.at_ledger.specs.Call.{AreTargetsOn, IsCallOn, IsLineOn, TargetPair, amount_of, first_account}
pub use Rattle.at_ledger.specs.Files.{IsPlayable, contents_of}
pub use Rattle.at_ledger.specs.Run.{Legal, last_state}
pub use Rattle.at_ledger.specs.State.{LedgerState, balance_of}
pub use Rattle.at_ledger.specs.declared.call.Call.{Call}
pub use Rattle.at_ledger.specs.declared.call.Call.TheVariants.{Pay, Read, Transfer}
pub use Rattle.at_ledger.specs.declared.call.Line.{Line}
pub use Rattle.at_ledger.specs.declared.call.Reply.{Reply}
pub use Rattle.at_ledger.specs.declared.call.Reply.TheVariants.{Balance, Done, Full, NotOwner, Short}
pub use Rattle.at_log.specs.ClosingTerms.{receipts_of}
pub use Rattle.at_log.specs.Receipts.{receipt_at}
pub use Rattle.at_log.specs.declared.receipt.Receipt.{Receipt}
pub use Rattle.at_object.specs.Calls.{call_steps, may_exchange}
pub use Rattle.at_object.specs.Passes.{PassTerms}
pub use Rattle.at_object.specs.PastCalls.{CostTerms}
pub use Rattle.at_object.specs.Payments.{payment_steps, shared_steps, single_steps}
pub use Rattle.at_orders.specs.Covered.{asked_in_file}
pub use Rattle.at_orders.specs.Orders.{AreAnswers}
pub use Rattle.at_orders.specs.Replies.{no_replies}
pub use Rattle.at_orders.specs.declared.replies.Range.{Range}
pub use Rattle.at_orders.specs.declared.replies.Replies.{Replies}
pub use Rattle.at_report.specs.Lines.{Word, Words, journal_words, line_text, lines_text, reply_word, spaced}
pub use Rattle.at_report.specs.Records.{comma_led, record_text, records_text}
pub use Rattle.at_snapshot.specs.Snapshots.{snapshot_steps}
pub use Rattle.at_stepper.specs.InTurns.{turn_at}
pub use Rattle.at_stepper.specs.Schedules.{answered_by}
pub use Rattle.at_stepper.specs.declared.replaying.TurnMade.{TurnMade}
pub use Rattle.at_workers.specs.Costs.{TakeCalls}
