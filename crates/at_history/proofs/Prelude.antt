-- What this crate's proofs name of other crates and of its definitions, in one place.
pub use Rattle.std.proofs.lemmas.Bool.{and_from, and_left, and_parts, and_right, cases_Bool, cases_eq, cases_lt, eq-eqb, eqb-true, false_from_ne_true, le-ltb, leb-true, lt-ltb, ltb-false, ltb-true, ne_eqb, or_left, or_right}
pub use Rattle.std.proofs.lemmas.Bool.Decides.{Decides-eqb, nat_tests}
pub use Rattle.std.proofs.lemmas.Grind.{same_number_lists}
pub use Rattle.std.proofs.lemmas.List.{append-nil, append_assoc, drop_more, get_or-map, get_or-replicate, get_or-set_other, get_or-set_same, get_or-take, get_or_append_left, get_or_at, get_or_default, get_or_past, get_or_push, length-append, length-map, length-replicate, length-set, length-take, length_push, nil_from_length, replicate_more, take-append-drop, take-append-le, take-take, take_all, take_at, take_more}
pub use Rattle.std.proofs.lemmas.List.Elements.{All-append, All-from_get_or, All-get_or, All-head, All-nil, All-tail, All-take, Contains-push_cases, filter-append, filter_map-append}
pub use Rattle.std.proofs.lemmas.List.Filters.{length-filter_more}
pub use Rattle.std.proofs.lemmas.List.Folds.{Any-from_list_any, list_any-append, list_any_at, list_any_more, list_any_none}
pub use Rattle.std.proofs.lemmas.List.FromFn.{get_or-map-range_with_len, get_or-range_with_len, length-map-range_with_len, length-range_with_len}
pub use Rattle.std.proofs.lemmas.List.Quantifiers.{position-Some}
pub use Rattle.std.proofs.lemmas.List.Sums.{count_by-le-length, count_by_more_no, count_by_more_yes, fold_push, get_or-le-sum_by, length-filter, sum-map, sum_by-append, sum_by-cons, sum_by-le, sum_by-le-sum_by, sum_by-set, sum_by-take-le, sum_by_more, sum_by_more_le, sum_by_push}
pub use Rattle.std.proofs.lemmas.Map.Made.{IsDistinct-from_AllPairs}
pub use Rattle.std.proofs.lemmas.Map.Steps.{length-le_from_distinct_below}
pub use Rattle.std.proofs.lemmas.Nat.{mul-add-lt, mul-le, same_from_place}
pub use Rattle.std.specs.List.{All, Contains, cons_option, count_by, filter_map, list_any, position, range_with_len, sum, sum_by}
pub use Rattle.std.specs.Option.{is_some}
pub use Rattle.at_base.specs.Counts.{Covers}
pub use Rattle.at_base.specs.declared.decision.Decision.{Decision}
pub use Rattle.at_history.specs.Balances.{IsCovered, amount_for, credit_of, credits, debit_of, debits}
pub use Rattle.at_history.specs.BoardState.{BoardState, decision_at, publication_at, request_at}
pub use Rattle.at_history.specs.Cuts.{IsCut, place, places_max, prefix_of}
pub use Rattle.at_history.specs.Entries.{is_own, is_round, is_round_on, is_same_round, names, settles}
pub use Rattle.at_history.specs.HeldCells.{gives_up, held_after}
pub use Rattle.at_history.specs.Histories.{AgreeOnRound, IsHistory, IsShownDecision, IsShownEntry, IsShownRound}
pub use Rattle.at_history.specs.Moves.{AreRuns, IsRun, decided_owner, move_of, moves}
pub use Rattle.at_history.specs.Overtaking.{AreOvertakers, HasLoadedBefore, IsLastRequest, IsUndecided, Overtakes, Overtaking, tag}
pub use Rattle.at_history.specs.Publications.{ArePublishedBy, IsPrefix, count_of, longer, no_publication}
unfoldable pub use Rattle.at_history.specs.Publications.{counts, publications_of}
pub use Rattle.at_history.specs.Rounds.{is_settled, named, owns_of, repeats, rounds, with_first}
unfoldable pub use Rattle.at_history.specs.Rounds.{firsts}
pub use Rattle.at_history.specs.Sound.{AreTargets, HasView, IsDecidedSo, IsHeld, IsPublished, IsSoundDecision, IsSoundEntry, IsSoundRequest, IsSoundRound, Sound}
pub use Rattle.at_history.specs.declared.cell.Cell.{Cell}
pub use Rattle.at_history.specs.declared.publication.Entry.{Entry}
pub use Rattle.at_history.specs.declared.publication.Entry.TheVariants.{Own, Round}
pub use Rattle.at_history.specs.declared.publication.Publication.{Publication}
pub use Rattle.at_history.specs.declared.request.Request.{Request}
pub use Rattle.at_history.specs.declared.request.SeenRow.{SeenRow}
pub use Rattle.at_ledger.proofs.Run.{book-run_from, last-push, replies-push}
pub use Rattle.at_ledger.proofs.Slots.{slot_in-owner}
pub use Rattle.at_ledger.specs.Account.{AccountTerms, is_shared, is_single, no_account, rounds_room, rounds_room_of, slot_in, slots_of}
pub use Rattle.at_ledger.specs.Book.{BookTerms, HasSlot, IsAccount, IsBegun, account_of, is_owner, log_room_of, total_of}
pub use Rattle.at_ledger.specs.Call.{AreTargetsOn, TargetPair, amount_of}
pub use Rattle.at_ledger.specs.Run.{run}
unfoldable pub use Rattle.at_ledger.specs.Run.{run_from}
pub use Rattle.at_ledger.specs.State.{LedgerState, Step, after_done, after_short, asked_position, balance_of, is_full, opening_state, pay, step}
unfoldable pub use Rattle.at_ledger.specs.State.{credited}
pub use Rattle.at_ledger.specs.declared.call.Call.{Call}
pub use Rattle.at_ledger.specs.declared.call.Call.TheVariants.{Pay}
pub use Rattle.at_ledger.specs.declared.call.Reply.TheVariants.{Done, Full, NotOwner, Short}
