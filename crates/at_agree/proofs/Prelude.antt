-- What this crate's proofs name of other crates and of its definitions, in one place.
pub use Rattle.std.proofs.Crossing.{crosses}
pub use Rattle.std.proofs.Math.Seq.{get_or-append_seam}
pub use Rattle.std.proofs.lemmas.Bool.{cases_Bool, cases_eq, cases_lt, cases_order, cond_both, eq-eqb, eqb-true, le-leb, ltb-false, ltb-true, ne_eqb}
pub use Rattle.std.proofs.lemmas.Grind.{common_steps}
pub use Rattle.std.proofs.lemmas.List.{append-nil, get_or-append_right, get_or-map, get_or-replicate, get_or-take, get_or_append_left, get_or_default, length-map, length-replicate, length-take, map-append, nil_from_length, replicate-append-replicate, take-take, take_all, take_more}
pub use Rattle.std.proofs.lemmas.List.Elements.{All-push, Contains-get_or}
pub use Rattle.std.proofs.lemmas.List.Folds.{list_any_none}
pub use Rattle.std.proofs.lemmas.List.FromFn.{get_or-map-range_with_len, get_or-range_with_len, length-map-range_with_len, length-range_with_len, map-range_with_len_more}
pub use Rattle.std.proofs.lemmas.List.Sums.{get_or-le-sum_by, sum_by-take-le, sum_by_push}
pub use Rattle.std.specs.Global.{Global}
pub use Rattle.std.specs.List.{range_with_len, sum_by}
pub use Rattle.std.specs.Option.{is_some, option_or}
pub use denote.Param.Send.{IsSend, sendable, view_send}
pub use denote.Param.SendFields.{declared_send, variants_send}
pub use Rattle.at_agree.specs.Agreement.{AllMayVote, AreCast, IsAgreement, IsCast, StandsByItself, values_of}
pub use Rattle.at_agree.specs.Council.{IsCouncil, IsSize, council_book, joint_account, most_value, own_account, shared_account, size_of, spent_account, unowned_account, value_account}
pub use Rattle.at_agree.specs.Plan.{HasProposed, HasShareDecided, HasVoted, IsPlanned, KeepsPlan, chosen, named_account, share_of, share_targets, value_targets, winner_in, winner_of}
pub use Rattle.at_agree.specs.Voices.{AreNewVoices, HasMadeOneMore, HasNotProposed, HasRead, IsVoice, IsVoiceOf, MayProposeValue, VoiceTerms, process_of, seen_by}
pub use Rattle.at_agree.specs.declared.agreement.Agreed.{Agreed}
pub use Rattle.at_agree.specs.declared.votes.Vote.{Vote}
pub use Rattle.at_base.specs.declared.decision.Decision.{Decision}
pub use Rattle.at_board.specs.Knowledge.Seats.{BoardTerms}
pub use Rattle.at_history.proofs.Laws.Counts.{get_or-publications_of}
pub use Rattle.at_history.proofs.Laws.Cuts.{place-IsCut-le}
pub use Rattle.at_history.proofs.Laws.Histories.{IsNextAtMost-IsHistory, named-rounds}
pub use Rattle.at_history.proofs.Laws.Prefixes.{IsPrefix-trans, take-publication_at}
pub use Rattle.at_history.proofs.Laws.Rooms.{is_some-position}
pub use Rattle.at_history.proofs.Laws.RoundSums.{repeats-firsts}
pub use Rattle.at_history.proofs.Laws.Rounds.{IsInitial, IsNextAtMost, firsts-nil, one_if, published, repeats-own, repeats-round, rounds-take_mono, sum_by-firsts-take_mono, sum_by-firsts-take_same, sum_by-firsts_new, sum_by-firsts_nothing}
pub use Rattle.at_history.proofs.Laws.RoundsDecided.{IsInitial-IsNextAtMost}
pub use Rattle.at_history.proofs.Laws.Runs.{AreRuns-HasRuns}
pub use Rattle.at_history.specs.Balances.{IsCovered, amount_for, balance_after, credit_of, credits, debit_of, debits}
pub use Rattle.at_history.specs.BoardState.{publication_at}
pub use Rattle.at_history.specs.Cuts.{place, prefix_of}
pub use Rattle.at_history.specs.Entries.{is_own, is_round, is_round_on, is_same_round, names}
pub use Rattle.at_history.specs.Histories.{AgreeOnRound, IsHistory, IsShownDecision, IsShownEntry}
pub use Rattle.at_history.specs.Publications.{ArePublishedBy, IsPrefix, no_publication, publications_of}
pub use Rattle.at_history.specs.Rounds.{firsts, named, owns_of, repeats, rounds}
pub use Rattle.at_history.specs.declared.publication.Entry.{Entry}
pub use Rattle.at_history.specs.declared.publication.Entry.TheVariants.{Own, Round}
pub use Rattle.at_history.specs.declared.publication.Publication.{Publication}
pub use Rattle.at_ledger.proofs.Slots.{slot_in-get_or}
pub use Rattle.at_ledger.specs.Account.{AccountTerms, is_owner_in, is_shared, is_single, no_account, slot_in, slots_of}
unfoldable pub use Rattle.at_ledger.specs.Account.{IsRisingFrom}
pub use Rattle.at_ledger.specs.Book.{BookTerms, HasSlot, IsBegun, IsBook, account_of, is_owner}
pub use Rattle.at_ledger.specs.Call.{TargetPair, amount_of, payout_of}
pub use Rattle.at_ledger.specs.Draft.{book_fault, book_of, book_without_accounts, limits_fault, terms_of}
unfoldable pub use Rattle.at_ledger.specs.Draft.{accounts_fault, owners_fault}
pub use Rattle.at_ledger.specs.Files.{contents_of}
pub use Rattle.at_ledger.specs.declared.call.Call.{Call}
pub use Rattle.at_ledger.specs.declared.call.Call.TheVariants.{Read, Transfer}
pub use Rattle.at_ledger.specs.declared.call.Reply.TheVariants.{Balance, Done, Short}
pub use Rattle.at_ledger.specs.declared.draft.BookError.{BookError}
pub use Rattle.at_ledger.specs.declared.draft.Draft.{Draft}
pub use Rattle.at_ledger.specs.declared.draft.DraftAccount.{DraftAccount}
pub use Rattle.at_log.proofs.Laws.Buckets.{range_with_len-more}
pub use Rattle.at_log.proofs.Laws.FirstRecords.{is_round-true}
pub use Rattle.at_log.proofs.Laws.OrderHasRuns.{HasRuns-journal_order}
pub use Rattle.at_log.proofs.Laws.OrderPremises.{HasRounds-Coherent, HasViews-Coherent}
pub use Rattle.at_log.proofs.Laws.OrderRounds.{IsCoherentEntry-journal_order, IsNextAtMost-journal_order, place-view-journal_order}
pub use Rattle.at_log.proofs.Laws.OrderState.{order_state}
pub use Rattle.at_log.proofs.Laws.Positions.{IsRoundAt, own_position-at, round_position-at}
pub use Rattle.at_log.proofs.Laws.Replies.{same_payout}
pub use Rattle.at_log.proofs.Laws.Views.{HasView-journal_order}
pub use Rattle.at_log.proofs.Sharing.{receipt_send}
pub use Rattle.at_log.specs.ClosingTerms.{ClosingTerms, receipts_of}
pub use Rattle.at_log.specs.Coherent.{Coherent, IsCoherentEntry, IsProposed}
pub use Rattle.at_log.specs.JournalOrder.{journal_order}
pub use Rattle.at_log.specs.Placed.{IsAtCut, IsAtOwn, IsAtRound, IsPlaced, done, full, has_no_room, not_owner, read, round, short}
pub use Rattle.at_log.specs.Receipts.{asks_in, calls_of, is_at_own, is_at_round, is_payout_from, is_success, owns_in, receipt_at}
pub use Rattle.at_log.specs.Told.{Told, key_at, key_of, own_position, round_position}
unfoldable pub use Rattle.at_log.specs.Told.{keys_from}
pub use Rattle.at_log.specs.declared.receipt.At.{At}
pub use Rattle.at_log.specs.declared.receipt.Receipt.{Receipt}
pub use Rattle.at_object.proofs.Laws.Calls.{past_receipts-more}
pub use Rattle.at_object.proofs.Sharing.{pass_send}
pub use Rattle.at_object.specs.Closings.{AreAccountedFor, ClosedTerms, IsAccountedFor}
pub use Rattle.at_object.specs.Paid.{PaysAlone}
pub use Rattle.at_object.specs.Passes.{AreNewPasses, IsNewPass, IsPassOf, PassTerms, Stands, counted_anew, past_call}
pub use Rattle.at_object.specs.PastCalls.{PastCall}
pub use Rattle.at_object.specs.Payments.{IsDecidedByBalance, payment_steps, shared_steps, single_steps}
