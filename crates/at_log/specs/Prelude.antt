-- What this crate's contracts and definitions name of other crates, in one place.
pub use Rattle.std.specs.List.{filter_map, flat_map, fold, range_with_len}
pub use Rattle.std.specs.List.Sorted.{IsNonDecreasing}
pub use Rattle.std.specs.Vec.{vec_capacity}
pub use Rattle.at_base.specs.Counts.{Covers}
pub use Rattle.at_base.specs.declared.decision.Decision.{Decision}
pub use Rattle.at_board.specs.Counting.{raised, stepped}
pub use Rattle.at_board.specs.Ends.Closing.{EndTerms, IsEnd, records_of}
pub use Rattle.at_board.specs.Knowledge.Parts.{asking_on, own_part, with_part}
pub use Rattle.at_board.specs.Knowledge.Records.{SeesRecord}
pub use Rattle.at_board.specs.Knowledge.Seats.{IsOf, SeatTerms}
pub use Rattle.at_board.specs.Steps.Publish.{MayEnter, Publishes}
pub use Rattle.at_board.specs.declared.knowledge.Knowledge.{Knowledge}
pub use Rattle.at_board.specs.declared.knowledge.Part.{Part}
pub use Rattle.at_board.specs.declared.words.TheConstants.{RECORD_WORDS}
pub use Rattle.at_history.specs.Balances.{IsCovered, balance_after}
pub use Rattle.at_history.specs.BoardState.{BoardState, publication_at, request_at}
pub use Rattle.at_history.specs.Cuts.{IsCut, place, prefix_of}
pub use Rattle.at_history.specs.Entries.{is_own, is_round}
pub use Rattle.at_history.specs.Histories.{IsHistory}
pub use Rattle.at_history.specs.Publications.{count_of, publications_of}
pub use Rattle.at_history.specs.Rounds.{firsts, is_settled, named, owns_of}
pub use Rattle.at_history.specs.Sound.{AreTargets, HasView, IsSoundOwn, IsSoundRound, Sound}
pub use Rattle.at_history.specs.declared.publication.Entry.{Entry}
pub use Rattle.at_history.specs.declared.publication.Publication.{Publication}
pub use Rattle.at_history.specs.declared.request.Request.{Request}
pub use Rattle.at_ledger.specs.Account.{is_shared, is_single, slot_in, slots_of}
pub use Rattle.at_ledger.specs.Book.{BookTerms, HasSlot, IsBook, account_of, is_owner, log_room_of}
pub use Rattle.at_ledger.specs.Call.{TargetPair, amount_of, first_account, payout_of}
pub use Rattle.at_ledger.specs.declared.call.Call.{Call}
pub use Rattle.at_ledger.specs.declared.call.Call.TheVariants.{Pay, Read, Transfer}
pub use Rattle.at_ledger.specs.declared.call.Line.{Line}
pub use Rattle.at_ledger.specs.declared.call.Reply.{Reply}
pub use Rattle.at_ledger.specs.declared.call.Reply.TheVariants.{Balance, Done, Full, NotOwner, Short}
