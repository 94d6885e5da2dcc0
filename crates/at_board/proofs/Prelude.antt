-- What this crate's proofs name of other crates and of its definitions, in one place.
pub use Rattle.std.proofs.Crossing.{Vec-sync}
pub use Rattle.std.proofs.Math.Seq.{get_or-append_seam}
pub use Rattle.std.proofs.lemmas.Bool.{cases_eq, cases_lt, cases_order, eq-eqb, le-ltb, lt-ltb, ne_eqb}
pub use Rattle.std.proofs.lemmas.Grind.{common_steps, same_number_lists}
pub use Rattle.std.proofs.lemmas.List.{append-nil, drop-replicate, get_or-append_right, get_or-drop, get_or-map, get_or-replicate, get_or-set_other, get_or-set_same, get_or-take, get_or_append_left, get_or_default, get_or_past, get_or_push, get_or_read, length-append, length-drop, length-map, length-replicate, length-set, length-take, length_push, same_lists, set-get_or, take-map, take-replicate, take-take, take_all}
pub use Rattle.std.proofs.lemmas.List.Elements.{All-append, All-cons, All-contains, All-from_get_or, All-get_or, All-map, All-nil, All-push, All-weaker, Contains-append_left, Contains-append_right, Contains-push}
pub use Rattle.std.proofs.lemmas.List.FromFn.{get_or-map-range_with_len, get_or-range_with_len, length-map-range_with_len, length-range_with_len}
pub use Rattle.std.proofs.lemmas.List.Sums.{get_or-le-sum_by, sum-map, sum_by-le-sum_by, sum_by-take-le, sum_by_more}
pub use Rattle.std.proofs.lemmas.Nat.{mul-add-lt, mul-le, same_from_place}
pub use Rattle.std.proofs.raw_atomic.Calls.{finds, fm, loads, seq_cst}
pub use Rattle.std.proofs.raw_atomic.Walks.{proved}
pub use Rattle.std.specs.List.{All, Contains, range_with_len, sum_by}
pub use Rattle.std.specs.Mem.Slots.{slots_counts, slots_items}
pub use Rattle.std.specs.Sync.RawAtomic.{Shift, along, always, asks, back, enters, found, if_none, leaves, opens, rests, shuts, word}
pub use base.Fml.{Fml, Lft, Share, fbor, flft, fnamed, fsep, ftrue}
pub use base.Logic.{SProp, all, all_e, ent, ex, ex_i, guard, sep, upd, upd_i, wand}
pub use base.Share.{three_quarters}
pub use base.Stored.{Coded}
pub use denote.Builtin.{unit}
pub use denote.Param.Send.{IsSend, IsSync, part_keyless, sendable}
pub use denote.RattleType.{RattleType}
pub use denote.RawPtr.{Ptr, block_ptr}
pub use denote.Steps.{nothing}
pub use lib.ListN.{get_elem?}
pub use mathlib.Core.List.{Mem, not-mem-nil}
pub use mathlib.Core.Option.{none, some, some-injective, some-ne-none}
pub use prog.Atomic.{either}
pub use seplogic.Ra.Ura.{Ura}
pub use types.ByLocal.{give_at, take_at}
pub use types.Kit.{ !, assume, check, done, drop, each, fjoin, fjoin3, fpack, fpick, frame, fsplit, fsplit3, given, join, learn, move, pick, qed, raw, rewrite, settle, show, split, suffices, use1, use2, ‵}
pub use types.Logic.{Logic, sem}
pub use types.Run.{from}
pub use Rattle.at_base.proofs.DecisionLaws.{same_decision}
pub use Rattle.at_base.specs.Decision.{word_of}
pub use Rattle.at_base.specs.declared.decision.Decision.{Decision}
pub use Rattle.at_board.specs.Counting.{raised, stepped}
pub use Rattle.at_board.specs.Ends.Closing.{AreAllFree, EndTerms, Gathers, HasWords, IsEnd, IsFreeSeat, end_of, gathered, records_in, records_of}
pub use Rattle.at_board.specs.Ends.Opening.{first_part, other_parts, starting_seat}
pub use Rattle.at_board.specs.Knowledge.Agreement.{AgreesOnDecision, AgreesOnEntry, AgreesWithSeen, DecisionInRange, RequestInRange, SeesInRange}
pub use Rattle.at_board.specs.Knowledge.Candidates.{ComesFirst, HasLoadedRow}
pub use Rattle.at_board.specs.Knowledge.Knows.{HasAsking, HasPart, IsAnnounced, IsDecided, Knows}
pub use Rattle.at_board.specs.Knowledge.Overviews.{IsOverview, LearnsOverview, TakesIn, seen_alone}
pub use Rattle.at_board.specs.Knowledge.Parts.{HasLoadedRequest, SeesDecision, SeesRequest, asking_on, no_asking, no_part, own_part, part_asking, part_at, seen_as, starting_asking, starting_knowledge, starting_part, with_asking, with_part}
pub use Rattle.at_board.specs.Knowledge.Records.{IsRecordWord, SeesForms}
pub use Rattle.at_board.specs.Knowledge.Seats.{BoardTerms, FewOvertake, HasCounts, IsKept, IsSeat, NamesOnlyAnnounced, SeatTerms}
pub use Rattle.at_board.specs.Rule.{AreSeated, Holds, Ruled}
pub use Rattle.at_board.specs.Steps.Announce.{Announces, MayAnnounce, with_request}
pub use Rattle.at_board.specs.Steps.Decide.{Decides, MayPropose, decided_round, with_count, with_decide, with_decision, word_after}
pub use Rattle.at_board.specs.Steps.Learn.{Learns, learned, spent_knowledge}
pub use Rattle.at_board.specs.Steps.LoadAnnounced.{LoadsAnnounced, all_of, with_row}
pub use Rattle.at_board.specs.Steps.LoadLength.{LoadsLength, with_load}
pub use Rattle.at_board.specs.Steps.LoadRecordWord.{MayLoadWord}
pub use Rattle.at_board.specs.Steps.LoadRequestWord.{KnowsOf, LoadsRequestWord, MayLoadRequest, with_loaded}
pub use Rattle.at_board.specs.Steps.Meetings.{AreSeen}
pub use Rattle.at_board.specs.Steps.Note.{IsNote, noted}
pub use Rattle.at_board.specs.Steps.Plays.{announced_request, loaded_announced, loaded_length, loaded_request_word, loaded_word, published_record, stored_request_word, stored_word}
pub use Rattle.at_board.specs.Steps.Publish.{FitsNext, KnowsRound, MayEnter, MayPublish, Publishes, with_record}
pub use Rattle.at_board.specs.Steps.StoreRecordWord.{MayStoreWord, StoresWord, with_word}
pub use Rattle.at_board.specs.Steps.StoreRequestWord.{MayStoreRequest, StoresRequestWord, with_request_word}
pub use Rattle.at_board.specs.Words.Addresses.{Address, IsAddress, announced_of, block_of, blocks_of, cell_of, group_of, groups, length_of, number_in, record_width, record_word, request_word, start_of, word_at, words_max}
unfoldable pub use Rattle.at_board.specs.Words.Addresses.{index_of, word_count}
pub use Rattle.at_board.specs.Words.Packed.{IsForm, amount_words, cell_word, decision_word, head_of, record_words, request_words}
pub use Rattle.at_board.specs.Words.Shown.{Shown}
pub use Rattle.at_board.specs.Words.Targets.{ArePacked, account_in, accounts_of, targets_word}
pub use Rattle.at_board.specs.contracts.meet.meet.{clauses, ended}
pub use Rattle.at_board.specs.declared.knowledge.Asking.{Asking}
pub use Rattle.at_board.specs.declared.knowledge.Knowledge.{Knowledge}
pub use Rattle.at_board.specs.declared.knowledge.LoadedWord.{LoadedWord}
pub use Rattle.at_board.specs.declared.knowledge.Part.{Part}
pub use Rattle.at_board.specs.declared.knowledge.SeenDecision.{SeenDecision}
pub use Rattle.at_board.specs.declared.knowledge.SeenRequest.{SeenRequest}
pub use Rattle.at_board.specs.declared.layout.Layout.{Layout}
pub use Rattle.at_history.proofs.Laws.Counts.{count_of-nil, count_of-push_other, count_of-push_own, get_or-publications_of, position-below, position-below_from_count, position_of, publications_of-nil, publications_of-push_other, publications_of-push_own}
pub use Rattle.at_history.proofs.Laws.Cuts.{IsCut-IsPrefix, length-IsCut, prefix_of-IsPrefix}
pub use Rattle.at_history.proofs.Laws.DecisionNumbers.{named-is_settled, no_decision, same_round}
pub use Rattle.at_history.proofs.Laws.HasRuns.{HasRuns-Sound}
pub use Rattle.at_history.proofs.Laws.Histories.{IsHistory-Sound, is_settled-named, named-decided, process-IsHistory, rounds-unsettled}
pub use Rattle.at_history.proofs.Laws.Lengths.{count_of-own_room, count_of-round_room}
pub use Rattle.at_history.proofs.Laws.Overtaking.{rounds-Overtaking}
pub use Rattle.at_history.proofs.Laws.Prefixes.{ArePublishedBy-IsPrefix, IsLonger, IsLonger-longer, IsPrefix-append, IsPrefix-count_of, IsPrefix-length, IsPrefix-refl, IsPrefix-trans, each_record, longer-either, publications_of-IsPrefix, take-IsPrefix, take-IsPrefix-le}
pub use Rattle.at_history.proofs.Laws.Rooms.{log_room_of-le, rounds_room-slots_of, sum-log_room_of}
pub use Rattle.at_history.proofs.Laws.RoundSums.{rounds-le-length}
pub use Rattle.at_history.proofs.Laws.Rounds.{firsts-nil, one_if, owns_of-IsPrefix, published}
pub use Rattle.at_history.proofs.Laws.RoundsDecided.{AreDecided-take, ArePublishedBy-HasRuns}
pub use Rattle.at_history.proofs.Laws.Runs.{IsRun-nil}
pub use Rattle.at_history.proofs.Laws.Slots.{other_slot, slot_in-injective}
pub use Rattle.at_history.proofs.Laws.Sums.{All-Contains, get_or-zeros, mul-one-le, sum_by-mul}
pub use Rattle.at_history.proofs.Steps.Announce.{Asked, Grows, Grows-announced, Grows-refl, IsNextRequest, SameAsked, SameAsked-announced, SameAsked-refl, Sound-announced, Sound-row_loaded, announced, announced_rows, announced_rows-here, announced_rows-other, asked_of, at_slot, at_slot-here, at_slot-other, length-Grows, request_at-Grows, slot_cases, with_asked}
pub use Rattle.at_history.proofs.Steps.Decide.{IsNextDecision, KeptCells-decided, KeptCells-push, Sound-decided, cell, cells-other, cells-own, decided, held-other, held-own}
pub use Rattle.at_history.proofs.Steps.Overtaking.{IsOldestRequest, Overtaking-announced, Overtaking-decided, Overtaking-pushed, Overtaking-row_loaded, Overtaking-starting}
pub use Rattle.at_history.proofs.Steps.Publish.{IsNextPublication, Sound-pushed, pushed}
pub use Rattle.at_history.proofs.Steps.Start.{Sound-starting, starting_state}
pub use Rattle.at_history.specs.Balances.{IsCovered}
pub use Rattle.at_history.specs.BoardState.{BoardState, decision_at, publication_at, request_at}
pub use Rattle.at_history.specs.Cuts.{place, places_max, prefix_of}
pub use Rattle.at_history.specs.Entries.{is_own, names, targets_of}
pub use Rattle.at_history.specs.HeldCells.{held_after}
pub use Rattle.at_history.specs.Histories.{IsHistory, IsShownDecision, IsShownEntry}
pub use Rattle.at_history.specs.Moves.{IsRun}
pub use Rattle.at_history.specs.Overtaking.{HasLoadedBefore, IsLastRequest, Overtaking}
pub use Rattle.at_history.specs.Publications.{IsPrefix, count_of, longer, no_publication, publications_of}
pub use Rattle.at_history.specs.Rounds.{is_settled, named, owns_of, rounds}
pub use Rattle.at_history.specs.Sound.{AreTargets, HasView, IsDecidedSo, IsSoundDecision, IsSoundEntry, IsSoundRound, Sound}
pub use Rattle.at_history.specs.declared.cell.Cell.{Cell}
pub use Rattle.at_history.specs.declared.publication.Entry.{Entry}
pub use Rattle.at_history.specs.declared.publication.Entry.TheVariants.{Own, Round}
pub use Rattle.at_history.specs.declared.publication.Publication.{Publication}
pub use Rattle.at_history.specs.declared.request.Request.{Request}
pub use Rattle.at_history.specs.declared.request.SeenRow.{SeenRow}
pub use Rattle.at_ledger.specs.Account.{AccountTerms, no_account, rounds_room, slot_in, slots_of}
pub use Rattle.at_ledger.specs.Book.{BookTerms, HasSlot, IsBegun, IsBook, account_of, log_room_of, rounds_of}
pub use Rattle.at_ledger.specs.Call.{AreTargetsOn, TargetPair, amount_of}
pub use Rattle.atomic_table.proofs.Fields.{HandData}
pub use Rattle.atomic_table.proofs.Lists.{at_last, at_longer, at_set, at_snoc, set_again, set_else, set_here}
pub use Rattle.atomic_table.proofs.Names.{Calls-last, Goes-dropped, Goes-ref, List, RefOf, Stays, Tuple, Val, [], a_type, addr, agg, alloc_all, and_then, at_ret, blocks, bounded, by, closes, dcons, dnil, emp, enter, env, exec, fact_i, feq_i, first, free_all, get, hidden_shr, inst_fn, keep, lands_last, lent_out, lit, lit<, look_at, mean, mut_Tells, mut_vals, no_more, obor_close, of_opd, owns, param, pass_all, plain, refl, returns, sets, shr_Tells, shr_bor-open, shr_vals, split3, stay_dropped, stay_ref, stop, sym, tables, tokens_halve, types_at, unhide, unit_lit, use0, use3, via, vptr, vunit, walk_of, yes, ℕ}
pub use Rattle.atomic_table.proofs.Roster.{Moved, apart, moves}
pub use Rattle.atomic_table.proofs.Sent.{seat_keyless}
pub use Rattle.atomic_table.specs.Seated.{TableId, age, common, fact, inner, mine, roster, seen, standing}
pub use Rattle.atomic_table.specs.Table.{Allows, Final, Joins, Me, Seen, Splits, State, keeps, step}
pub use Rattle.atomic_table.specs.contracts.shared.Seat.{the_row}
