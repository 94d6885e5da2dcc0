-- What this crate's contracts and definitions name of other crates, in one place.
pub use Rattle.std.specs.Arc.{arc_value}
pub use Rattle.std.specs.Global.{Global}
pub use Rattle.std.specs.Option.{is_some, option_map}
pub use Rattle.std.specs.Vec.{vec_capacity}
pub use Rattle.std.specs.contracts.impls.GlobalAllocator.TheImpl.{ghosts}
pub use Rattle.std_alloc.specs.Box.Ownership.{box_owns}
pub use base.Fml.{Fml, feq, fex, fsep}
pub use denote.RattleType.{RattleType}
pub use denote.RawPtr.{Ptr, block_ptr, null_ptr}
pub use Rattle.at_board.specs.Counting.{raised}
pub use Rattle.at_board.specs.Knowledge.Seats.{BoardTerms, IsOf, SeatTerms}
pub use Rattle.at_files.specs.BookFile.{Spells, book_of_records}
pub use Rattle.at_files.specs.Names.{AreNamesOf, NameList}
pub use Rattle.at_files.specs.Records.{file_records}
pub use Rattle.at_files.specs.declared.book_fault.BadBook.{BadBook}
pub use Rattle.at_files.specs.declared.book_fault.BookWhy.{BookWhy}
pub use Rattle.at_history.specs.Balances.{balance_after}
pub use Rattle.at_history.specs.Moves.{AreRuns}
pub use Rattle.at_history.specs.Publications.{IsPrefix, longer}
pub use Rattle.at_journal.specs.Calls.{calls_in}
pub use Rattle.at_journal.specs.Linearizable.{AreTimed, CallTimes, IsLinearizable}
pub use Rattle.at_ledger.specs.Call.{AreTargetsOn, IsCallOn, TargetPair}
pub use Rattle.at_ledger.specs.Files.{contents_of}
pub use Rattle.at_ledger.specs.Limits.{most_accounts, most_targets}
pub use Rattle.at_ledger.specs.Run.{Legal, Whole, last_state}
pub use Rattle.at_ledger.specs.State.{balance_of}
pub use Rattle.at_ledger.specs.declared.call.Call.{Call}
pub use Rattle.at_ledger.specs.declared.call.Line.{Line}
pub use Rattle.at_ledger.specs.declared.call.Reply.{Reply}
pub use Rattle.at_ledger.specs.declared.draft.BookError.{BookError}
pub use Rattle.at_log.specs.Coherent.{Coherent}
pub use Rattle.at_log.specs.JournalOrder.{journal_lines, journal_order}
pub use Rattle.at_log.specs.Receipts.{calls_of}
pub use Rattle.at_log.specs.declared.receipt.Receipt.{Receipt}
pub use Rattle.at_object.specs.Calls.{CallMade, StaysWithin}
pub use Rattle.at_object.specs.Closings.{AreAccountedFor, ClosedTerms, HasAllLogs, IsAccountedFor, KeepsNotes}
pub use Rattle.at_object.specs.Looks.{HasSeenBalances, TakesLook}
pub use Rattle.at_object.specs.Passes.{AreNewPasses, IsNewPass, IsPassOf, PassTerms, Stands, asked_by, past_receipts, sent_by}
pub use Rattle.at_report.specs.Report.{IsPrinted, report_text}
