-- What this crate's proofs name of other crates and of its definitions, in one place.
pub use Rattle.std.proofs.lemmas.Bool.{cases_Bool, cases_eq, cases_lt, eq-eqb, eqb-true, ne_eqb}
pub use Rattle.std.proofs.lemmas.Grind.{same_number_lists}
pub use Rattle.std.proofs.lemmas.List.{append-nil, get_or-replicate, get_or_default, length-replicate, length-take, set-get_or, set-set, take-append-le, take_all, take_more}
pub use Rattle.std.proofs.lemmas.List.Concat.{length-flat_map}
pub use Rattle.std.proofs.lemmas.List.Elements.{All-append, All-contains, All-contains_itself, All-filter, All-from_get_or, All-get_or, All-head, All-tail, All-take, All-weaker, Contains-append_cases, Contains-append_left, Contains-append_right, Contains-push, filter_passes}
pub use Rattle.std.proofs.lemmas.List.Folds.{list_any-append}
pub use Rattle.std.proofs.lemmas.List.FromFn.{get_or-map-range_with_len, length-map-range_with_len, map-range_with_len_more}
pub use Rattle.std.proofs.lemmas.List.Sums.{sum_by-cons, sum_by-set}
pub use Rattle.std.specs.List.{All, Contains, flat_map, list_any, range_with_len, sum, sum_by}
pub use Rattle.at_base.specs.Counts.{Covers}
pub use Rattle.at_base.specs.declared.decision.Decision.{Decision}
pub use Rattle.at_board.proofs.Counting.{stepped-none, stepped-stepped}
pub use Rattle.at_board.specs.Counting.{stepped}
pub use Rattle.at_board.specs.Knowledge.Seats.{SeatTerms}
pub use Rattle.at_board.specs.declared.knowledge.Knowledge.{Knowledge}
pub use Rattle.at_board.specs.declared.words.TheConstants.{RECORD_WORDS}
pub use Rattle.at_fold.specs.CatchingUp.{IsCatchingUp}
pub use Rattle.at_fold.specs.Counted.{IsDecidedIn, IsSettledSo}
unfoldable pub use Rattle.at_fold.specs.Counted.{counted_records}
pub use Rattle.at_fold.specs.HasCounted.{AreSumsOf, CountsAccount, CountsCut, HasCounted, HasRecords, IsAccountOf, IsSlotOf, MayCount, StaysCounted}
pub use Rattle.at_fold.specs.Sums.{AccountSums, FitsMore, FitsRound, HasSums, SlotSums, TotalSums, after_entry, answer_at, is_counted, is_new_to, no_slot, no_sums, slot_at, starting_slot, starting_sums, sums_at, with_amounts, with_answer, with_credit, with_round}
pub use Rattle.at_history.proofs.Laws.Counts.{get_or-counts, length-counts, publications_of-append, publications_of-nil, publications_of-other, publications_of-own, publications_of-take}
pub use Rattle.at_history.proofs.Laws.Cuts.{get_or-IsCut, length-IsCut, place-IsCut-le}
pub use Rattle.at_history.proofs.Laws.Prefixes.{IsPrefix-count_of}
pub use Rattle.at_history.proofs.Laws.Rooms.{log_room_of-le, sum-log_room_of}
pub use Rattle.at_history.proofs.Laws.RoundSums.{repeats-firsts, sum_by-firsts-same}
pub use Rattle.at_history.proofs.Laws.Rounds.{firsts-nil, one_if, published, repeats-own, sum_by-firsts_new, sum_by-firsts_repeat}
pub use Rattle.at_history.proofs.Laws.Shuffles.{HasSameRecords, IsShuffle, IsShuffle-HasSameRecords, length-IsShuffle, list_any-IsShuffle}
pub use Rattle.at_history.proofs.Laws.Sums.{get_or-zeros}
pub use Rattle.at_history.specs.Balances.{amount_for, balance_after, credit_of, debit_of}
pub use Rattle.at_history.specs.BoardState.{publication_at}
pub use Rattle.at_history.specs.Cuts.{IsCut, place, prefix_of}
pub use Rattle.at_history.specs.Entries.{is_round, is_round_on, is_same_round, names, settles}
pub use Rattle.at_history.specs.Histories.{AgreeOnRound, IsHistory, IsShownDecision, IsShownEntry}
pub use Rattle.at_history.specs.Moves.{IsRun}
pub use Rattle.at_history.specs.Publications.{ArePublishedBy, IsPrefix, count_of, counts, no_publication}
unfoldable pub use Rattle.at_history.specs.Publications.{publications_of}
pub use Rattle.at_history.specs.Rounds.{firsts, repeats}
pub use Rattle.at_history.specs.declared.publication.Entry.{Entry}
pub use Rattle.at_history.specs.declared.publication.Entry.TheVariants.{Own, Round}
pub use Rattle.at_history.specs.declared.publication.Publication.{Publication}
pub use Rattle.at_ledger.specs.Account.{rounds_room, slots_of}
pub use Rattle.at_ledger.specs.Book.{BookTerms, IsBook, account_of, log_room_of}
pub use Rattle.at_ledger.specs.Call.{AreTargetsOn, TargetPair, amount_of}
pub use Rattle.at_log.specs.Loading.{IsEntryOf}
