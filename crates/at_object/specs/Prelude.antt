-- What this crate's contracts and definitions name of other crates, in one place.
pub use Rattle.std.specs.Vec.{vec_capacity, vec_len}
pub use Rattle.at_board.specs.Counting.{raised}
pub use Rattle.at_board.specs.Ends.Opening.{AreNew}
pub use Rattle.at_board.specs.Knowledge.Fresh.{fresh_loads}
pub use Rattle.at_board.specs.Knowledge.Overviews.{IsOverviewOf, LearnsOverview}
pub use Rattle.at_board.specs.Knowledge.Parts.{asking_on, loads_of, own_part}
pub use Rattle.at_board.specs.Knowledge.Seats.{BoardTerms, IsKept, IsOf, SeatTerms}
pub use Rattle.at_board.specs.declared.knowledge.Knowledge.{Knowledge}
pub use Rattle.at_board.specs.declared.words.TheConstants.{RECORD_WORDS}
pub use Rattle.at_fold.specs.HasCounted.{CountsCut, HasCounted}
pub use Rattle.at_fold.specs.Sums.{TotalSums}
pub use Rattle.at_history.specs.Balances.{balance_after}
pub use Rattle.at_history.specs.BoardState.{BoardState}
pub use Rattle.at_history.specs.Cuts.{place, prefix_of}
pub use Rattle.at_history.specs.Histories.{IsHistory}
pub use Rattle.at_history.specs.Moves.{AreRuns}
pub use Rattle.at_history.specs.Publications.{IsPrefix, count_of, longer, publications_of}
pub use Rattle.at_history.specs.Rounds.{named, owns_of}
pub use Rattle.at_history.specs.Sound.{Sound}
pub use Rattle.at_history.specs.declared.publication.Publication.{Publication}
pub use Rattle.at_ledger.specs.Account.{is_shared, is_single, slots_of}
pub use Rattle.at_ledger.specs.Book.{BookTerms, HasSlot, account_of, is_owner, total_of, with_usable_room}
pub use Rattle.at_ledger.specs.Call.{AreTargetsOn, IsCallOn, TargetPair, first_account, payout_of}
pub use Rattle.at_ledger.specs.declared.call.Call.{Call}
pub use Rattle.at_ledger.specs.declared.call.Call.TheVariants.{Read, Transfer}
pub use Rattle.at_ledger.specs.declared.call.Reply.{Reply}
pub use Rattle.at_ledger.specs.declared.call.Reply.TheVariants.{Balance, Done, Full, NotOwner, Short}
pub use Rattle.at_log.specs.BetweenCalls.{IsBetweenCalls}
pub use Rattle.at_log.specs.ClosingTerms.{ClosingTerms, log_published, receipts_of}
pub use Rattle.at_log.specs.Coherent.{Coherent}
pub use Rattle.at_log.specs.InTime.{IsNotBehind, KeepsTime, look_at}
pub use Rattle.at_log.specs.Placed.{IsPlaced}
pub use Rattle.at_log.specs.Receipts.{asks_in, is_success, owns_in, receipt_at}
pub use Rattle.at_log.specs.Told.{Told, own_position, round_position}
pub use Rattle.at_log.specs.declared.receipt.At.{At}
pub use Rattle.at_log.specs.declared.receipt.At.TheVariants.{Cut, Own, Previous, Round}
pub use Rattle.at_log.specs.declared.receipt.Receipt.{Receipt}
pub use Rattle.at_payments.specs.Helpings.{decides_made, decides_on}
pub use Rattle.at_payments.specs.Settling.{AsksOnce, StandsAfter, StandsAfterSnapshot, StandsInRound, asking_steps, round_steps}
pub use Rattle.at_payments.specs.Standing.{IsOnlyOwner, StandsAfterCut, StandsAtCut, StandsAtOwn, cut_behind, payment_reply}
pub use Rattle.at_snapshot.specs.Collected.{HasLoaded}
pub use Rattle.at_snapshot.specs.Snapshots.{IsSnapshot, snapshot_steps}
pub use Rattle.atomic_table.specs.Seated.{TableId}
