-- What this crate's contracts and definitions name of other crates, in one place.
pub use Rattle.std.specs.List.{range_with_len}
pub use Rattle.std.specs.Mem.Slots.{IsFull, slots_items, slots_len}
pub use lib.ListN.{get_elem?}
pub use mathlib.Core.Option.{some}
pub use Rattle.at_base.specs.Decision.{InRange, word_of}
pub use Rattle.at_base.specs.Head.{HeadInRange, head_word}
pub use Rattle.at_base.specs.declared.decision.Decision.{Decision}
pub use Rattle.at_history.specs.Balances.{IsCovered}
pub use Rattle.at_history.specs.BoardState.{BoardState, decision_at, publication_at, request_at}
pub use Rattle.at_history.specs.Cuts.{places_max, prefix_of}
pub use Rattle.at_history.specs.Entries.{targets_of}
pub use Rattle.at_history.specs.HeldCells.{held_after}
pub use Rattle.at_history.specs.Histories.{IsHistory}
pub use Rattle.at_history.specs.Overtaking.{IsLastRequest, Overtaking}
pub use Rattle.at_history.specs.Publications.{IsPrefix, count_of, longer, publications_of}
pub use Rattle.at_history.specs.Rounds.{is_settled, named, owns_of, rounds}
pub use Rattle.at_history.specs.Sound.{AreTargets, HasView, IsSoundOwn, IsSoundRound, Sound}
pub use Rattle.at_history.specs.declared.cell.Cell.{Cell}
pub use Rattle.at_history.specs.declared.publication.Entry.{Entry}
pub use Rattle.at_history.specs.declared.publication.Entry.TheVariants.{Own, Round}
pub use Rattle.at_history.specs.declared.publication.Publication.{Publication}
pub use Rattle.at_history.specs.declared.request.Request.{Request}
pub use Rattle.at_ledger.specs.Account.{rounds_room, slots_of}
pub use Rattle.at_ledger.specs.Book.{BookTerms, HasSlot, IsBook, account_of, log_room_of}
pub use Rattle.at_ledger.specs.Call.{AreTargetsOn, TargetPair, amount_of, target_at}
pub use Rattle.at_ledger.specs.declared.draft.TheConstants.{PROCESSES_MAX, ROUNDS_MAX}
pub use Rattle.atomic_table.specs.Seated.{TableId}
pub use Rattle.atomic_table.specs.Table.{Me, State, Step}
