-- What this crate's proofs name of other crates and of its definitions, in one place.
pub use Rattle.std.proofs.Math.ListN.{get_or-append, get_or-eq_default, set}
pub use Rattle.std.proofs.Math.Seq.{take-nil}
pub use Rattle.std.proofs.lemmas.Bool.{cases_Bool, cases_eq, cases_lt, eq-eqb, eqb-true, le-ltb, lt-ltb, ltb-false, ltb-true, ne_eqb, not-true}
pub use Rattle.std.proofs.lemmas.Bool.Decides.{nat_tests}
pub use Rattle.std.proofs.lemmas.Grind.{common_steps, flat_map-append, get_or-set_at}
pub use Rattle.std.proofs.lemmas.List.{ext_get_or, get_or-append_right, get_or-map, get_or-replicate, get_or-set_other, get_or-set_same, get_or-take, get_or_append_left, get_or_default, get_or_past, get_or_push, length-append, length-map, length-replicate, length-set, length-take-le, length_push, map-append, map-set, set_comm, take-append-drop, take-take, take_all, take_more}
pub use Rattle.std.proofs.lemmas.List.Elements.{All-append, All-filter, All-head, All-map, All-push, All-tail, Contains-append_cases, Contains-append_left, Contains-append_right, Contains-get_or, Contains-push, Contains-push_cases, filter-append, filter_map-append}
pub use Rattle.std.proofs.lemmas.List.Folds.{Any-from_list_any, flat_map-map, list_any_at}
pub use Rattle.std.proofs.lemmas.List.FromFn.{fill_by_all, get_or-map-range_with_len, get_or-range_with_len, length-map-range_with_len, length-range_with_len, map-range_with_len_more}
pub use Rattle.std.proofs.lemmas.List.Quantifiers.{position-Some}
pub use Rattle.std.proofs.lemmas.List.Sorted.{All-permutation, IsPermutation-cons, IsPermutation-middle, IsPermutation-refl, IsPermutation-trans}
pub use Rattle.std.proofs.lemmas.List.Sums.{count_by_more_yes, sum_by-cons, sum_by-take-le, sum_by_more, sum_by_more_le}
pub use Rattle.std.proofs.lemmas.Nat.{mul-add-lt, same_from_place}
pub use Rattle.std.proofs.lemmas.Option.{none-some, same_Some}
pub use Rattle.std.proofs.lemmas.Result.{IfOk-weaker}
pub use Rattle.std.proofs.lemmas.Simd.{map-map}
pub use Rattle.std.specs.Global.{Global}
pub use Rattle.std.specs.List.{All, Contains, cons_option, count_by, filter_map, flat_map, list_any, range_with_len, sum_by}
pub use Rattle.std.specs.List.Sorted.{IsNonDecreasingBy, IsPermutation}
pub use Rattle.std.specs.Option.{option_copied}
pub use Rattle.std.specs.Result.{IfOk}
pub use Rattle.std.specs.declared.alloc.AllocError.{AllocError}
pub use Rattle.at_base.specs.declared.decision.Decision.{Decision}
pub use Rattle.at_history.proofs.Laws.Balances.{BalancesFollow, BalancesFollow-push, Follows-nil, MovesNow, MovesSame, balances_after, ledger}
pub use Rattle.at_history.proofs.Laws.Counts.{count_of-push_other, count_of-take-le, count_of-take_mono, count_of-take_more_own, get_or-counts, get_or-publications_of, length-counts, position-below, publications_of-nil, publications_of-take, sum-counts}
pub use Rattle.at_history.proofs.Laws.Covers.{CoversEntry, CoversEntry-HasRuns}
pub use Rattle.at_history.proofs.Laws.HasRuns.{IsRunDecision}
pub use Rattle.at_history.proofs.Laws.Payments.{pay-done}
pub use Rattle.at_history.proofs.Laws.Prefixes.{take-publication_at}
pub use Rattle.at_history.proofs.Laws.Rounds.{IsInitial, IsNextAtMost, firsts-nil, one_if, published, repeats-own, repeats-round, rounds-push_next, sum_by-firsts-take_mono, sum_by-firsts_nothing}
pub use Rattle.at_history.proofs.Laws.Runs.{MovesSame-refused, MovesSame-repeat, is_shared-single, owner-slot}
pub use Rattle.at_history.proofs.Laws.Sums.{get_or-zeros}
pub use Rattle.at_history.specs.Balances.{IsCovered, amount_for, balance_after, credit_of, credits, debit_of}
pub use Rattle.at_history.specs.BoardState.{publication_at, request_at}
pub use Rattle.at_history.specs.Cuts.{place, prefix_of}
pub use Rattle.at_history.specs.Entries.{is_own, is_round, is_round_on, is_same_round, names}
pub use Rattle.at_history.specs.Publications.{count_of, counts, no_publication}
unfoldable pub use Rattle.at_history.specs.Publications.{publications_of}
pub use Rattle.at_history.specs.Rounds.{firsts, owns_of, repeats, rounds}
pub use Rattle.at_history.specs.Sound.{IsSoundEntry}
pub use Rattle.at_history.specs.declared.publication.Entry.{Entry}
pub use Rattle.at_history.specs.declared.publication.Entry.TheVariants.{Own, Round}
pub use Rattle.at_history.specs.declared.publication.Publication.{Publication}
pub use Rattle.at_history.specs.declared.request.Request.{Request}
pub use Rattle.at_journal.specs.Calls.{AreCallsOf, calls_in, line_at}
pub use Rattle.at_journal.specs.Held.{AreAdded, AreByPlace, AreHeld, AreNamed, NameCuts, cut_of, named_by}
pub use Rattle.at_journal.specs.Linearizable.{AreTimed, CallTimes, EndsBefore, IsLinearizable}
pub use Rattle.at_journal.specs.Order.{AreNested, AreNumbered, AreRecords, AreWithin, no_number, published_in, records_between, records_of_process}
pub use Rattle.at_journal.specs.Ordered.{AreKeyCounts, all_keyed, all_keys, bucket, by_key, keyed_of, without_key}
pub use Rattle.at_journal.specs.Positions.{HasOwnPositions, HasRoundPositions, HasStarts, IsOnAccount, MayBeKeyed, positions_of, with_position}
pub use Rattle.at_journal.specs.declared.keyed.CallAt.{CallAt}
pub use Rattle.at_journal.specs.declared.keyed.Keyed.{Keyed}
pub use Rattle.at_journal.specs.declared.named_cuts.CutAt.{CutAt}
pub use Rattle.at_journal.specs.declared.order.Numbered.{Numbered}
pub use Rattle.at_ledger.proofs.Run.{last-append, replies-append, run_from-cons, run_from-nil}
pub use Rattle.at_ledger.specs.Account.{AccountTerms, is_owner_in, is_shared, is_single, no_account, slot_in}
pub use Rattle.at_ledger.specs.Book.{BookTerms, IsBegun, account_of, is_owner}
pub use Rattle.at_ledger.specs.Call.{AreTargetsOn, TargetPair, amount_of, first_account, payout_of}
pub use Rattle.at_ledger.specs.Run.{Legal, Run, Whole, asked_in, last_state, lines_of, run_from}
pub use Rattle.at_ledger.specs.State.{LedgerState, Step, after_done, after_short, asked_of, asked_position, balance_of, counted, is_full, moved, opening_state, pay, step, with_asked, with_sent}
pub use Rattle.at_ledger.specs.declared.call.Call.{Call}
pub use Rattle.at_ledger.specs.declared.call.Call.TheVariants.{Pay, Read, Transfer}
pub use Rattle.at_ledger.specs.declared.call.Line.{Line}
pub use Rattle.at_ledger.specs.declared.call.Reply.{Reply}
pub use Rattle.at_ledger.specs.declared.call.Reply.TheVariants.{Balance, Done, Full, NotOwner, Short}
pub use Rattle.at_log.proofs.Laws.Buckets.{filter-none, flat_map-buckets, range_with_len-more}
pub use Rattle.at_log.proofs.Laws.FirstRecords.{is_round-true}
pub use Rattle.at_log.proofs.Laws.KeyBounds.{line_key-le}
pub use Rattle.at_log.proofs.Laws.Keys.{key_at-even, key_at-odd, length-keys_from, line_key-receipt, line_key-sorted, moves_at, previous_key, still_at}
pub use Rattle.at_log.proofs.Laws.Order.{All-flat_map, ArePublishedBy-journal_order, filter-first, flat_map-values, own_log, publications_of-journal_order}
pub use Rattle.at_log.proofs.Laws.OrderHasRuns.{HasRuns-journal_order, IsInState-record}
pub use Rattle.at_log.proofs.Laws.OrderPremises.{HasRounds-Coherent, HasViews-Coherent}
pub use Rattle.at_log.proofs.Laws.OrderRounds.{AreFirsts-journal_order, AreFirsts-take, IsCoherentEntry-journal_order, IsFirst, IsFirst-journal_order, IsInitial-journal_order, IsNextAtMost-journal_order, round_entry}
pub use Rattle.at_log.proofs.Laws.OrderState.{named_before, order_state}
pub use Rattle.at_log.proofs.Laws.Positions.{IsOwnAt, IsRoundAt, own_position-at, round_position-at}
pub use Rattle.at_log.proofs.Laws.PublicationKeys.{get_or-log_lengths, publication_key-above, publication_key-at_least, publication_key-le, publication_key-le_all, publication_key-mono}
pub use Rattle.at_log.proofs.Laws.Replies.{after_short-shared, after_short-single, first_account-payout, is_payout_from-payout, pay-full, pay-not_owner, pay-short, step-payout}
pub use Rattle.at_log.proofs.Laws.Views.{Contains-view, HasView-journal_order}
pub use Rattle.at_log.specs.ClosingTerms.{ClosingTerms, log_lengths, log_of, log_published, published_by, receipts_of}
pub use Rattle.at_log.specs.Coherent.{AreChained, Coherent, IsCoherentEntry}
pub use Rattle.at_log.specs.HeldCuts.{cut_at, held_cuts}
pub use Rattle.at_log.specs.JournalOrder.{line_key, line_of, numbers_at, process_lines_at, publication_key, published_at}
unfoldable pub use Rattle.at_log.specs.JournalOrder.{journal_lines, journal_order}
pub use Rattle.at_log.specs.Placed.{IsAtOwn, IsAtRound, IsPlaced, MayPay, done, full, has_no_room, not_owner, read, round, short}
pub use Rattle.at_log.specs.Receipts.{asks_in, calls_of, is_at_own, is_at_round, is_payout_from, is_success, owns_in, receipt_at}
pub use Rattle.at_log.specs.Told.{key_at, key_of, keys_of, own_position, round_position}
pub use Rattle.at_log.specs.declared.receipt.At.{At}
pub use Rattle.at_log.specs.declared.receipt.At.TheVariants.{Previous}
pub use Rattle.at_log.specs.declared.receipt.Receipt.{Receipt}
pub use Rattle.at_log.specs.declared.record.Record.{Record}
