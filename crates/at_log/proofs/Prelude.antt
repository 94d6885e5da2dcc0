-- What this crate's proofs name of other crates and of its definitions, in one place.
pub use Rattle.std.proofs.Crossing.{crosses}
pub use Rattle.std.proofs.Math.Seq.{get_or-append_seam, take-append_seam}
pub use Rattle.std.proofs.lemmas.Bool.{and_from, and_parts, cases_Bool, cases_eq, cases_lt, eq-eqb, eqb-true, le-ltb, lt-ltb, ltb-false, ltb-true, ne_eqb, or_left}
pub use Rattle.std.proofs.lemmas.Grind.{flat_map-append, same_number_lists}
pub use Rattle.std.proofs.lemmas.List.{append-nil, ext_get_or, get_or-append_right, get_or-map, get_or-replicate, get_or-set_other, get_or-set_same, get_or-take, get_or_append_left, get_or_at, get_or_default, get_or_past, length-append, length-map, length-replicate, length-set, length-take, length-take-le, map-append, map-set, take-append-le, take-take, take_all, take_more}
pub use Rattle.std.proofs.lemmas.List.Elements.{All-append, All-cons, All-contains, All-filter, All-map, All-nil, All-take, All-weaker, Contains-append_left, Contains-append_right, Contains-get_or}
pub use Rattle.std.proofs.lemmas.List.Folds.{Any-from_list_any, list_any-append, list_any_at}
pub use Rattle.std.proofs.lemmas.List.FromFn.{get_or-map-range_with_len, get_or-range_with_len, length-map-range_with_len, length-range_with_len}
pub use Rattle.std.proofs.lemmas.List.Sums.{count_by_more_yes, sum_by-cons, sum_by-take-le, sum_by_push}
pub use Rattle.std.specs.List.{All, Contains, cons_option, count_by, filter_map, flat_map, fold, list_any, range_with_len, sum_by}
pub use Rattle.std.specs.List.Sorted.{IsNonDecreasing, IsNonDecreasingBy}
pub use Rattle.std.specs.Option.{is_some}
pub use Rattle.std.specs.Vec.{vec_capacity, vec_len}
pub use denote.Param.Send.{IsSend, sendable}
pub use Rattle.at_base.specs.Counts.{Covers}
pub use Rattle.at_base.specs.declared.decision.Decision.{Decision}
pub use Rattle.at_board.proofs.Counting.{stepped-stepped}
pub use Rattle.at_board.specs.Counting.{raised, stepped}
pub use Rattle.at_board.specs.Ends.Closing.{EndTerms, IsEnd, records_of}
pub use Rattle.at_board.specs.Ends.Opening.{starting_seat}
pub use Rattle.at_board.specs.Knowledge.Parts.{asking_on, no_asking, no_part, own_part, starting_asking, with_part}
pub use Rattle.at_board.specs.Knowledge.Records.{IsRecordWord, RecordWordTerms, SeesRecord}
pub use Rattle.at_board.specs.Knowledge.Seats.{IsKept, IsSeat, SeatTerms}
pub use Rattle.at_board.specs.Steps.Publish.{FitsNext, MayPublish, Publishes, with_record}
pub use Rattle.at_board.specs.Steps.StoreRecordWord.{MayStoreWord, StoresWord, with_word}
pub use Rattle.at_board.specs.Words.Addresses.{record_width}
pub use Rattle.at_board.specs.Words.Packed.{IsForm, entry_words, record_words}
pub use Rattle.at_board.specs.declared.knowledge.Asking.{Asking}
pub use Rattle.at_board.specs.declared.knowledge.Knowledge.{Knowledge}
pub use Rattle.at_board.specs.declared.knowledge.Part.{Part}
pub use Rattle.at_board.specs.declared.words.TheConstants.{RECORD_WORDS}
pub use Rattle.at_history.proofs.Laws.Counts.{IsPosition, count_of-nil, count_of-push_own, count_of-take-le, count_of-take_mono, count_of-take_more_own, get_or-counts, get_or-publications_of, length-counts, position-below, position-below_from_count, position_of, publications_of-append, publications_of-nil, publications_of-other, publications_of-own, publications_of-take, sum-counts}
pub use Rattle.at_history.proofs.Laws.Cuts.{IsCut-IsPrefix, IsCut-counts, IsCut-take, get_or-IsCut, length-IsCut, place-IsCut-le, position-IsCut, prefix_of-IsPrefix, sum-Covers-le}
pub use Rattle.at_history.proofs.Laws.DecisionNumbers.{named-is_settled, same_round}
pub use Rattle.at_history.proofs.Laws.HasRuns.{HasRuns}
pub use Rattle.at_history.proofs.Laws.Histories.{ArePublishedBy-IsHistory, IsNextAtMost-IsHistory, is_settled-named}
pub use Rattle.at_history.proofs.Laws.Prefixes.{ArePublishedBy-take, IsPrefix-count_of, IsPrefix-length, IsPrefix-refl, IsPrefix-take, IsPrefix-take_mono, IsPrefix-trans, publications_of-IsPrefix, take-IsPrefix, take-IsPrefix-le, take-publication_at}
pub use Rattle.at_history.proofs.Laws.Rooms.{log_room_of-le}
pub use Rattle.at_history.proofs.Laws.RoundSums.{sum_by-firsts-same}
pub use Rattle.at_history.proofs.Laws.Rounds.{IsInitial, IsInitial-nil, IsInitial-push, IsNextAtMost, firsts-new, firsts-nil, firsts-repeat, has_round, one_if, owns_of-IsPrefix, published, repeats-round, rounds-take_mono, sum_by-firsts-take_mono, sum_by-firsts-take_same, sum_by-firsts_new, sum_by-firsts_nothing, sum_by-firsts_repeat}
pub use Rattle.at_history.proofs.Laws.RoundsDecided.{IsInitial-IsNextAtMost, place-HasView-le}
pub use Rattle.at_history.proofs.Laws.Settled.{first-below, is_settled-below_named, round-below}
pub use Rattle.at_history.proofs.Laws.Shuffles.{HasSameRecords, IsShuffle-HasSameRecords, length-IsShuffle, list_any-IsShuffle}
pub use Rattle.at_history.specs.Balances.{IsCovered, balance_after, credit_of, credits, debit_of, debits}
pub use Rattle.at_history.specs.BoardState.{BoardState, decision_at, publication_at, request_at}
pub use Rattle.at_history.specs.Cuts.{IsCut, place, prefix_of}
pub use Rattle.at_history.specs.Entries.{is_own, is_round, is_round_on, is_same_round, names, settles}
pub use Rattle.at_history.specs.Histories.{AgreeOnRound, IsHistory, IsShownDecision, IsShownEntry, IsShownRound}
pub use Rattle.at_history.specs.Publications.{ArePublishedBy, IsPrefix, count_of, counts, no_publication}
unfoldable pub use Rattle.at_history.specs.Publications.{publications_of}
pub use Rattle.at_history.specs.Rounds.{firsts, is_settled, named, owns_of, repeats, rounds}
pub use Rattle.at_history.specs.Sound.{HasView, IsDecidedSo, IsPublished, IsSoundDecision, IsSoundEntry, IsSoundOwn, IsSoundRound, Sound}
pub use Rattle.at_history.specs.declared.publication.Entry.{Entry}
pub use Rattle.at_history.specs.declared.publication.Entry.TheVariants.{Own, Round}
pub use Rattle.at_history.specs.declared.publication.Publication.{Publication}
pub use Rattle.at_history.specs.declared.request.Request.{Request}
pub use Rattle.at_ledger.specs.Account.{is_shared, slot_in, slots_of}
pub use Rattle.at_ledger.specs.Book.{BookTerms, HasSlot, IsBegun, IsBook, account_of, is_owner, log_room_of}
pub use Rattle.at_ledger.specs.Call.{TargetPair, amount_of, first_account, payout_of}
pub use Rattle.at_ledger.specs.State.{LedgerState, Step, after_done, after_short, balance_of, is_full, pay, step, with_asked}
pub use Rattle.at_ledger.specs.declared.call.Call.{Call}
pub use Rattle.at_ledger.specs.declared.call.Call.TheVariants.{Pay, Read, Transfer}
pub use Rattle.at_ledger.specs.declared.call.Reply.TheVariants.{Done, Full, NotOwner, Short}
pub use Rattle.at_log.specs.Appending.{IsStoring, MayAppend, with_stored}
pub use Rattle.at_log.specs.BetweenCalls.{IsBetweenCalls, StandsWith, own_rows}
pub use Rattle.at_log.specs.ClosingTerms.{ClosingTerms, log_lengths, log_of, log_published, published_by, receipts_of}
pub use Rattle.at_log.specs.Coherent.{AreChained, Coherent, IsAgreed, IsCoherentEntry, IsNumbered, IsProposed, is_earlier_for}
pub use Rattle.at_log.specs.Ended.{IsEndedEntry, IsEndedView}
pub use Rattle.at_log.specs.HeldCuts.{cut_at, held_cuts}
pub use Rattle.at_log.specs.InOrder.{AreInOrder, AreTwo, HasAskedFor, IsOwnAt}
pub use Rattle.at_log.specs.InTime.{KeepsTime, look_at}
pub use Rattle.at_log.specs.JournalOrder.{line_key, numbers_at, publication_key, published_at}
unfoldable pub use Rattle.at_log.specs.JournalOrder.{journal_order}
pub use Rattle.at_log.specs.LastRecord.{IsLast}
pub use Rattle.at_log.specs.Left.{IsLeft}
pub use Rattle.at_log.specs.Loading.{IsViewOf}
pub use Rattle.at_log.specs.Placed.{IsAtCut, IsAtOwn, IsAtRound, IsPlaced, done, full, not_owner, read, round, short}
pub use Rattle.at_log.specs.Receipts.{asks_in, is_at_own, is_at_round, is_payout_from, is_success, owns_in, receipt_at}
pub use Rattle.at_log.specs.Standing.{AllStand}
pub use Rattle.at_log.specs.Told.{Told, key_at, key_of, keys_of}
unfoldable pub use Rattle.at_log.specs.Told.{keys_from, own_position, round_position}
pub use Rattle.at_log.specs.declared.receipt.At.{At}
pub use Rattle.at_log.specs.declared.receipt.At.TheVariants.{Cut, Previous}
pub use Rattle.at_log.specs.declared.receipt.Receipt.{Receipt}
pub use Rattle.at_log.specs.declared.record.Record.{Record}
