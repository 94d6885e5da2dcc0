-- What this crate's proofs name of other crates and of its definitions, in one place.
pub use Rattle.std.proofs.Crossing.{crosses}
pub use Rattle.std.proofs.Math.Seq.{get_or-append_seam}
pub use Rattle.std.proofs.lemmas.Bool.{and_from, and_parts, cases_Bool, cases_eq, cases_lt, eq-eqb, eqb-true, le-ltb, lt-ltb, or_parts}
pub use Rattle.std.proofs.lemmas.Grind.{common_steps}
pub use Rattle.std.proofs.lemmas.List.{append-nil, ext_get_or, get_or-map, get_or-replicate, get_or-set_other, get_or-set_same, get_or_append_left, get_or_at, get_or_push, length-append, length-map, length-replicate, length-set, length-take, length_push, map-append, take-append-drop, take_all}
pub use Rattle.std.proofs.lemmas.List.Elements.{All-push, filter_map-append}
pub use Rattle.std.proofs.lemmas.List.Folds.{sum_by-replicate}
pub use Rattle.std.proofs.lemmas.List.Quantifiers.{position-Some}
pub use Rattle.std.proofs.lemmas.List.Sums.{get_or-le-sum_by, sum-map, sum_by-append, sum_by-set}
pub use Rattle.std.specs.List.{All, filter_map, list_any}
pub use Rattle.std.specs.Option.{is_some}
pub use Rattle.std.specs.Vec.{vec_capacity, vec_len}
pub use denote.Param.Send.{IsSend, sendable, view_send}
pub use denote.Param.SendFields.{declared_send, variants_send}
pub use Rattle.at_base.specs.declared.decision.Decision.{Decision}
pub use Rattle.at_board.proofs.Sharing.{table_seat_send}
pub use Rattle.at_board.specs.Counting.{raised}
pub use Rattle.at_board.specs.Ends.Closing.{AreAllFree, EndTerms, IsEnd, records_of}
pub use Rattle.at_board.specs.Ends.Opening.{AreNew, starting_seat}
pub use Rattle.at_board.specs.Knowledge.Agreement.{AgreesOnEntry}
pub use Rattle.at_board.specs.Knowledge.Fresh.{fresh_loads}
pub use Rattle.at_board.specs.Knowledge.Parts.{asking_on, loads_of, no_part, own_part}
pub use Rattle.at_board.specs.Knowledge.Seats.{BoardTerms, IsKept, SeatTerms}
pub use Rattle.at_board.specs.Steps.Publish.{with_record}
pub use Rattle.at_board.specs.Steps.StoreRequestWord.{MayStoreRequest}
pub use Rattle.at_board.specs.declared.knowledge.Asking.{Asking}
pub use Rattle.at_board.specs.declared.knowledge.Knowledge.{Knowledge}
pub use Rattle.at_board.specs.declared.knowledge.Part.{Part}
pub use Rattle.at_board.specs.declared.knowledge.SeenDecision.{SeenDecision}
pub use Rattle.at_board.specs.declared.knowledge.SeenRequest.{SeenRequest}
pub use Rattle.at_board.specs.declared.words.TheConstants.{RECORD_WORDS}
pub use Rattle.at_fold.proofs.Laws.MorePublished.{StaysCounted-HasCounted}
pub use Rattle.at_fold.specs.HasCounted.{CountsAccount, CountsCut, HasCounted}
pub use Rattle.at_fold.specs.Sums.{TotalSums}
pub use Rattle.at_history.proofs.Laws.Counts.{get_or-publications_of}
pub use Rattle.at_history.proofs.Laws.Covers.{single_or_shared}
pub use Rattle.at_history.proofs.Laws.Cuts.{place-IsCut-le, place-zeros}
pub use Rattle.at_history.proofs.Laws.Histories.{ArePublishedBy-IsHistory, IsNextAtMost-IsHistory}
pub use Rattle.at_history.proofs.Laws.Payments.{length-credited, sum-credited}
pub use Rattle.at_history.proofs.Laws.Prefixes.{ArePublishedBy-take, IsPrefix-append, IsPrefix-count_of, IsPrefix-length, IsPrefix-refl, IsPrefix-trans, publications_of-IsPrefix, take-IsPrefix-le, take-publication_at}
pub use Rattle.at_history.proofs.Laws.Rounds.{IsInitial, firsts-new, firsts-nil, firsts-repeat, one_if, repeats-own, repeats-round}
pub use Rattle.at_history.proofs.Laws.RoundsDecided.{IsInitial-IsNextAtMost, place-HasView-le}
pub use Rattle.at_history.proofs.Laws.Settled.{first-below, record-is_settled, round-below}
pub use Rattle.at_history.proofs.Laws.Sums.{get_or-zeros}
pub use Rattle.at_history.specs.Balances.{IsCovered, balance_after}
pub use Rattle.at_history.specs.BoardState.{publication_at, request_at}
pub use Rattle.at_history.specs.Cuts.{place, prefix_of}
pub use Rattle.at_history.specs.Entries.{is_own, is_round, is_same_round, settles}
pub use Rattle.at_history.specs.HeldCells.{held_after}
pub use Rattle.at_history.specs.Histories.{AgreeOnRound, IsHistory, IsShownDecision, IsShownEntry, IsShownRound}
pub use Rattle.at_history.specs.Moves.{AreRuns, IsRun, decided_owner, move_of, moves}
pub use Rattle.at_history.specs.Publications.{IsPrefix, count_of, longer, no_publication, publications_of}
pub use Rattle.at_history.specs.Rounds.{firsts, is_settled, named, owns_of, repeats, rounds}
pub use Rattle.at_history.specs.Sound.{HasView, Sound}
pub use Rattle.at_history.specs.declared.publication.Entry.{Entry}
pub use Rattle.at_history.specs.declared.publication.Entry.TheVariants.{Own, Round}
pub use Rattle.at_history.specs.declared.publication.Publication.{Publication}
pub use Rattle.at_history.specs.declared.request.Request.{Request}
pub use Rattle.at_ledger.proofs.Run.{last-push, replies-push, run_from-nil}
pub use Rattle.at_ledger.specs.Account.{AccountTerms, is_shared, is_single, no_account, slot_in, slots_of}
pub use Rattle.at_ledger.specs.Book.{BookTerms, HasSlot, account_of, has_single, is_owner, with_usable_room}
pub use Rattle.at_ledger.specs.Call.{AreTargetsOn, TargetPair, amount_of, first_account, payout_of}
pub use Rattle.at_ledger.specs.Run.{Run, run}
pub use Rattle.at_ledger.specs.State.{LedgerState, Step, after_done, after_short, balance_of, is_full, moved, opening_state, pay, step, with_asked, with_sent}
pub use Rattle.at_ledger.specs.declared.call.Call.{Call}
pub use Rattle.at_ledger.specs.declared.call.Call.TheVariants.{Pay, Read, Transfer}
pub use Rattle.at_ledger.specs.declared.call.Reply.{Reply}
pub use Rattle.at_ledger.specs.declared.call.Reply.TheVariants.{Balance, Done, Full, NotOwner, Short}
pub use Rattle.at_log.proofs.Laws.EndedRecords.{length-records_of}
pub use Rattle.at_log.proofs.Laws.FirstRecords.{is_round-true}
pub use Rattle.at_log.proofs.Laws.Keys.{length-keys_from}
pub use Rattle.at_log.proofs.Laws.LastRecord.{IsLast-Publishes}
pub use Rattle.at_log.proofs.Laws.Positions.{own_position-at, round_position-at}
pub use Rattle.at_log.proofs.Laws.Replies.{first_account-payout, same_payout}
pub use Rattle.at_log.proofs.LeftLaws.Calls.{StandsBehind, StandsBehind-cut, length-prefix_of-le}
pub use Rattle.at_log.proofs.LeftLaws.Counts.{asks_in-push, asks_in-push_still, owns_in-push}
pub use Rattle.at_log.proofs.LeftLaws.Keys.{keys_of-IsPrefix, keys_of-le, publication_at-IsPrefix}
pub use Rattle.at_log.proofs.LeftLaws.Seats.{named-IsBetweenCalls}
pub use Rattle.at_log.proofs.LeftLaws.Stands.{AsksNothing, AsksOne, HasMoved, IsBetweenCalls-asked, IsBetweenCalls-own, IsBetweenCalls-still, PublishesOwn, StandsWith-starting, Told-call_asked, Told-call_own, Told-call_still, announced-starting, owns_of-own, owns_of-still}
pub use Rattle.at_log.proofs.LeftLaws.Told.{Told-IsPrefix, Told-call}
pub use Rattle.at_log.specs.BetweenCalls.{IsBetweenCalls}
pub use Rattle.at_log.specs.ClosingTerms.{ClosingTerms, log_published, receipts_of}
pub use Rattle.at_log.specs.Coherent.{Coherent, IsCoherentEntry}
pub use Rattle.at_log.specs.InTime.{KeepsTime, look_at}
pub use Rattle.at_log.specs.LastRecord.{IsLast}
pub use Rattle.at_log.specs.Placed.{IsAtCut, IsAtOwn, IsAtRound, IsPlaced, MayPay, has_no_room}
pub use Rattle.at_log.specs.Placed.IsPlaced.{done, full, not_owner, read, round, short}
pub use Rattle.at_log.specs.Receipts.{asks_in, is_at_own, is_at_round, is_payout_from, is_success, owns_in, receipt_at}
pub use Rattle.at_log.specs.Standing.{AllStand, IsEndWith}
pub use Rattle.at_log.specs.Told.{Told, key_of, keys_of, own_position, round_position}
unfoldable pub use Rattle.at_log.specs.Told.{keys_from}
pub use Rattle.at_log.specs.declared.receipt.At.{At}
pub use Rattle.at_log.specs.declared.receipt.At.TheVariants.{Cut, Previous}
pub use Rattle.at_log.specs.declared.receipt.Receipt.{Receipt}
pub use Rattle.at_log.specs.declared.record.Record.{Record}
pub use Rattle.at_object.specs.CallCounts.{CallCountTerms, with_one_call}
pub use Rattle.at_object.specs.Calls.{CallMade, PaymentMade, StaysWithin, call_steps, may_exchange}
pub use Rattle.at_object.specs.Closings.{AreAccountedFor, ClosedTerms, ComesAfterNote, HasAllLogs, KeepsNotes}
pub use Rattle.at_object.specs.Looks.{AreBalancesAfter}
pub use Rattle.at_object.specs.Paid.{PaysAlone, PaysInRound}
pub use Rattle.at_object.specs.Parted.{IsAtRest, IsCountOf, IsOfOnePass, pass_of}
pub use Rattle.at_object.specs.Passes.{AreNewPasses, IsNewPass, IsPass, PassTerms, Stands, asked_by, counted_anew, one_more_call, others_counted, past_call, past_receipts, seat_of, sent_by}
pub use Rattle.at_object.specs.PastCalls.{PastCall}
pub use Rattle.at_object.specs.Payments.{IsDecidedByBalance, IsRefused, has_used_up, payment_steps, place_at, prefix_before, refusal_in, refusal_of, reply_of, sent_after}
pub use Rattle.at_object.specs.declared.parts.Rest.{Rest}
pub use Rattle.at_payments.proofs.Laws.Looks.{CountsCut-HasLooked, HasCounted-HasLooked}
pub use Rattle.at_payments.proofs.Laws.Placed.{payment_reply-done, payment_reply-short}
pub use Rattle.at_payments.proofs.SharedLaws.Started.{asking_on-HasLoaded}
pub use Rattle.at_payments.specs.Helpings.{decides_made, decides_on}
pub use Rattle.at_payments.specs.Settling.{StandsAfter, StandsInRound}
pub use Rattle.at_payments.specs.Standing.{IsOnlyOwner, StandsAtCut, StandsAtOwn, cut_behind, own_record, payment_reply}
pub use Rattle.at_snapshot.specs.Collected.{HasLoaded}
pub use Rattle.at_snapshot.specs.Snapshots.{IsSnapshot, snapshot_steps}
pub use Rattle.atomic_table.specs.Seated.{TableId}
