-- What this crate's contracts and definitions name of other crates, in one place.
pub use Rattle.std.specs.List.{range_with_len}
pub use Rattle.std.specs.Vec.{vec_capacity}
pub use Rattle.at_board.specs.Counting.{raised}
pub use Rattle.at_board.specs.Knowledge.Overviews.{IsOverviewOf, TakesIn}
pub use Rattle.at_board.specs.Knowledge.Seats.{BoardTerms, IsOf, SeatTerms}
pub use Rattle.at_board.specs.Steps.Made.{MakesOnly}
pub use Rattle.at_board.specs.declared.step.BoardStep.{BoardStep}
pub use Rattle.at_board.specs.declared.words.TheConstants.{RECORD_WORDS}
pub use Rattle.at_calling.specs.Calling.{CallingTerms, EndsCall, FollowsCall, IsCallWithin, IsWay, MakesCallStep, StartsFrom, call_turns_left, exchanges_made, exchanges_of, first_step, length_loaded, next_step, pass_before, publishes_of, steps_made, steps_of}
pub use Rattle.at_calling.specs.declared.call_stage.CallStage.{CallStage}
pub use Rattle.at_fold.specs.Sums.{TotalSums}
pub use Rattle.at_history.specs.BoardState.{publication_at}
pub use Rattle.at_history.specs.Cuts.{places_max}
pub use Rattle.at_history.specs.Histories.{IsHistory}
pub use Rattle.at_history.specs.Publications.{ArePublishedBy, IsPrefix, count_of, publications_of}
pub use Rattle.at_history.specs.declared.publication.Publication.{Publication}
pub use Rattle.at_journal.specs.Linearizable.{AreTimed, CallTimes, IsLinearizable}
pub use Rattle.at_ledger.specs.Book.{BookTerms}
pub use Rattle.at_ledger.specs.Call.{IsCallOn}
pub use Rattle.at_ledger.specs.Files.{contents_of}
pub use Rattle.at_ledger.specs.Run.{Legal, Whole, lines_of}
pub use Rattle.at_ledger.specs.declared.call.Call.{Call}
pub use Rattle.at_ledger.specs.declared.call.Line.{Line}
pub use Rattle.at_ledger.specs.declared.call.Reply.{Reply}
pub use Rattle.at_ledger.specs.declared.call.Reply.TheVariants.{Balance, Done, Full, NotOwner, Short}
pub use Rattle.at_log.specs.ClosingTerms.{ClosingTerms, log_published, receipts_of}
pub use Rattle.at_log.specs.Coherent.{Coherent}
pub use Rattle.at_log.specs.InTime.{KeepsTime, look_at}
pub use Rattle.at_log.specs.JournalOrder.{journal_lines}
pub use Rattle.at_log.specs.Receipts.{calls_of, receipt_at}
pub use Rattle.at_log.specs.declared.receipt.At.{At}
pub use Rattle.at_log.specs.declared.receipt.At.TheVariants.{Cut, Own, Previous, Round}
pub use Rattle.at_log.specs.declared.receipt.Receipt.{Receipt}
pub use Rattle.at_object.specs.BoundNumbers.{three_processes}
pub use Rattle.at_object.specs.Calls.{CallMade, StaysWithin, call_steps}
pub use Rattle.at_object.specs.Closings.{AreAccountedFor, HasAllLogs}
pub use Rattle.at_object.specs.Parted.{HasMemoryFor, IsOfOnePass, pass_of}
pub use Rattle.at_object.specs.Payments.{refusal_in}
pub use Rattle.at_object.specs.Passes.{AreNewPasses, IsNewPass, IsPassOf, PassTerms, Stands, past_receipts, seat_of, sent_by}
pub use Rattle.at_object.specs.declared.parts.Rest.{Rest}
