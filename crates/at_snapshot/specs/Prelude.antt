-- What this crate's contracts and definitions name of other crates, in one place.
pub use Rattle.at_base.specs.Counts.{Covers}
pub use Rattle.at_board.specs.Counting.{raised, stepped}
pub use Rattle.at_board.specs.Knowledge.Fresh.{IsFresh}
pub use Rattle.at_board.specs.Knowledge.Parts.{loads_of, own_part, with_part}
pub use Rattle.at_board.specs.Knowledge.Seats.{IsOf}
pub use Rattle.at_board.specs.declared.knowledge.Knowledge.{Knowledge}
pub use Rattle.at_history.specs.BoardState.{publication_at}
pub use Rattle.at_history.specs.Cuts.{IsCut, prefix_of}
pub use Rattle.at_history.specs.Histories.{IsHistory}
pub use Rattle.at_history.specs.Publications.{IsPrefix, count_of, publications_of}
pub use Rattle.at_ledger.specs.Book.{BookTerms}
