-- What this crate's contracts and definitions name of other crates, in one place.
pub use Rattle.std.specs.List.{flat_map, list_any, range_with_len}
pub use Rattle.at_base.specs.Counts.{Covers}
pub use Rattle.at_base.specs.declared.decision.Decision.{Decision}
pub use Rattle.at_board.specs.Counting.{stepped}
pub use Rattle.at_board.specs.Knowledge.Parts.{own_part}
pub use Rattle.at_board.specs.Knowledge.Seats.{IsOf}
pub use Rattle.at_board.specs.declared.words.TheConstants.{RECORD_WORDS}
pub use Rattle.at_history.specs.Balances.{amount_for, balance_after, credit_of, credits, debit_of, debits}
pub use Rattle.at_history.specs.BoardState.{publication_at}
pub use Rattle.at_history.specs.Cuts.{IsCut, prefix_of}
pub use Rattle.at_history.specs.Entries.{is_round}
pub use Rattle.at_history.specs.Histories.{IsHistory}
pub use Rattle.at_history.specs.Publications.{IsPrefix, count_of, counts, publications_of}
pub use Rattle.at_history.specs.Rounds.{is_settled, named, rounds}
pub use Rattle.at_history.specs.declared.publication.Entry.{Entry}
pub use Rattle.at_history.specs.declared.publication.Entry.TheVariants.{Own, Round}
pub use Rattle.at_history.specs.declared.publication.Publication.{Publication}
pub use Rattle.at_ledger.specs.Account.{rounds_room, slots_of}
pub use Rattle.at_ledger.specs.Book.{BookTerms, IsBook, account_of}
pub use Rattle.at_ledger.specs.Call.{AreTargetsOn, TargetPair, amount_of}
