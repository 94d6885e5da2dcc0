-- What this crate's contracts and definitions name of other crates, in one place.
pub use Rattle.std.specs.List.{range_with_len}
pub use Rattle.at_base.specs.declared.decision.Decision.{Decision}
pub use Rattle.at_board.specs.Knowledge.Seats.{BoardTerms}
pub use Rattle.at_board.specs.declared.words.TheConstants.{RECORD_WORDS}
pub use Rattle.at_history.specs.BoardState.{publication_at}
pub use Rattle.at_history.specs.Histories.{IsHistory}
pub use Rattle.at_history.specs.Moves.{decided_owner}
pub use Rattle.at_history.specs.Publications.{IsPrefix}
pub use Rattle.at_history.specs.Rounds.{owns_of}
pub use Rattle.at_history.specs.declared.publication.Entry.{Entry}
pub use Rattle.at_history.specs.declared.publication.Entry.TheVariants.{Own, Round}
pub use Rattle.at_history.specs.declared.publication.Publication.{Publication}
pub use Rattle.at_ledger.specs.Account.{AccountTerms}
pub use Rattle.at_ledger.specs.Book.{BookTerms}
pub use Rattle.at_ledger.specs.Call.{TargetPair}
pub use Rattle.at_ledger.specs.Draft.{book_of, terms_of}
pub use Rattle.at_ledger.specs.Files.{contents_of}
pub use Rattle.at_ledger.specs.declared.call.Call.{Call}
pub use Rattle.at_ledger.specs.declared.call.Call.TheVariants.{Read, Transfer}
pub use Rattle.at_ledger.specs.declared.call.Reply.TheVariants.{Balance}
pub use Rattle.at_log.specs.ClosingTerms.{receipts_of}
pub use Rattle.at_log.specs.Coherent.{Coherent}
pub use Rattle.at_log.specs.Receipts.{asks_in, calls_of, receipt_at}
pub use Rattle.at_log.specs.Told.{round_position}
pub use Rattle.at_log.specs.declared.receipt.Receipt.{Receipt}
pub use Rattle.at_object.specs.Closings.{ClosedTerms}
pub use Rattle.at_object.specs.Passes.{AreNewPasses, IsNewPass, IsPassOf, PassTerms, Stands, counted_anew, others_counted, past_receipts}
pub use Rattle.at_object.specs.Payments.{shared_steps, single_steps}
pub use Rattle.at_snapshot.specs.Snapshots.{snapshot_steps}
