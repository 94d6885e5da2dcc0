-- What this crate's proofs name of other crates and of its definitions, in one place.
pub use Rattle.std.proofs.Math.ListN.{get_or-eq_default}
pub use Rattle.std.proofs.Math.Nat.{eq-or-lt_of_le, min-le_right, mul-le-mul_right, mul_comm}
pub use Rattle.std.proofs.Math.Seq.{get_or-append_seam}
pub use Rattle.std.proofs.lemmas.Bool.{and_from, and_parts, cases_Bool, cases_eq, cases_lt, eq-eqb, le-leb, leb-true, ltb-false, ne_eqb}
pub use Rattle.std.proofs.lemmas.Bool.Decides.{Decides-eqb, Decides-ltb}
pub use Rattle.std.proofs.lemmas.Cmp.{nat_list_eq_equiv}
pub use Rattle.std.proofs.lemmas.Grind.{common_steps, get_or-set_at, get_or_default_zero}
pub use Rattle.std.proofs.lemmas.List.{append-nil, append_assoc, drop-append-le, drop_at, ext_get_or, get_or-append-add, get_or-drop, length-drop, get_or-map, get_or-replicate, get_or-set_other, get_or-set_same, get_or_append_left, get_or_default, length-append, length-map, length-replicate, length-set, length-take, length-take-le, map-set, take_all, take_more, with_items_is}
pub use Rattle.std.proofs.lemmas.List.Elements.{filter-append, All-append, All-cons, All-contains, All-nil, All-push, All-weaker, Contains-append_left, Contains-append_right, Contains-get_or, Contains-push, Contains-push_cases}
pub use Rattle.std.proofs.lemmas.List.Filters.{length-filter_both, length-filter_more}
pub use Rattle.std.proofs.lemmas.List.Folds.{sum_by-replicate}
pub use Rattle.std.proofs.lemmas.List.FromFn.{get_or-map-range_with_len, length-map-range_with_len}
pub use Rattle.std.proofs.lemmas.List.Quantifiers.{position-Some}
pub use Rattle.std.proofs.lemmas.List.Sums.{sum_by-le-sum_by, get_or-le-sum_by, sum-map, sum_by-append, sum_by-cons, sum_by-drop_more, sum_by-set}
pub use Rattle.std.proofs.lemmas.Map.Keys.{IsDistinct-from_apart}
pub use Rattle.std.proofs.lemmas.Map.Steps.{length-le_from_distinct_below}
pub use Rattle.std.proofs.lemmas.Nat.{div-add-mod', div-mul-add, mod-mul-add, mul-add-lt}
pub use Rattle.std.proofs.lemmas.Option.{get_or_from_slice_get, slice_get-get_or, slice_get_within}
pub use Rattle.std.proofs.lemmas.Result.{on_ok_weaker}
pub use Rattle.std.specs.Cmp.Lexicographic.{pointwise, same_text}
pub use Rattle.std.specs.Global.{Global}
pub use Rattle.std.specs.List.{list_any, position, range_with_len}
pub use Rattle.std.specs.Result.{IsErrAnd}
pub use Rattle.std.specs.Vec.{with_item, with_items}
pub use Rattle.at_ledger.proofs.Calls.{IsCallOn-more}
pub use Rattle.at_ledger.proofs.Continuing.{AreWithinFiles-none, Completes, Continues, completes, continues-cons, continues-from_cons, continues-whole, none_made, whole-continues}
pub use Rattle.at_ledger.proofs.Credited.{amount_of-drop_more, credited-drop_all, credited-drop_more, sum-set_more}
pub use Rattle.at_ledger.proofs.FileLists.{contents_of-pushed, get_or-contents_of, length-contents_of}
pub use Rattle.at_ledger.proofs.Made.{AreWithinFiles-next, call_known, call_known-at, get_or-with_made, get_or-with_made_other, sum-with_made}
pub use Rattle.at_ledger.proofs.Run.{last-take_more, run_from-cons, run_from-nil}
pub use Rattle.at_ledger.specs.Account.{AccountTerms, is_shared, is_single, no_account, slot_in, slots_of}
pub use Rattle.at_ledger.specs.Book.{BookTerms, account_of, is_owner, total_of}
pub use Rattle.at_ledger.specs.Call.{AreTargetsOn, IsCallOn, TargetPair, amount_of, first_account, payout_of}
pub use Rattle.at_ledger.specs.Files.{IsPlayable, contents_of}
pub use Rattle.at_ledger.specs.NextCalls.{AreWithinFiles, IsNextOfProcess, with_made}
pub use Rattle.at_ledger.specs.Run.{Run, asked_in, lines_of, run_from}
pub use Rattle.at_ledger.specs.State.{LedgerState, Step, after_done, after_short, asked_of, asked_position, balance_of, is_full, moved, opening_state, pay, sent_of, step, with_asked, with_sent}
unfoldable pub use Rattle.at_ledger.specs.State.{credited}
pub use Rattle.at_ledger.specs.declared.call.Call.{Call}
pub use Rattle.at_ledger.specs.declared.call.Call.TheVariants.{Pay, Read, Transfer}
pub use Rattle.at_ledger.specs.declared.call.Line.{Line}
pub use Rattle.at_ledger.specs.declared.call.Reply.{Reply}
pub use Rattle.at_ledger.specs.declared.call.Reply.TheVariants.{Balance, Done, Full, NotOwner, Short}
pub use Rattle.at_orders.specs.Counts.{AreCountedApart, HasStagesApart}
pub use Rattle.at_orders.specs.Covered.{AreLeft, OpeningCovers, OpeningsCover, TellCovered, left_when_asked, asked_by_call, asked_by_pay, asked_in_file, asked_in_files}
unfoldable pub use Rattle.at_orders.specs.Covered.{sum_below}
pub use Rattle.at_orders.specs.Orders.{AreAnswers, Comes, IsOrder}
pub use Rattle.at_orders.specs.Ordered.{AreFilesAnswers, AreFirstAnswers, AreOrdered, AreSpans, AreSpansOn, HoldsAt, IsKeptAt, IsNamedFirst, IsOrdered, IsSpan, at_else, falls_of, range_in, rises_of, part_ranges}
pub use Rattle.at_orders.specs.Parts.{AreJoined, AreJoining, AreParts, AreTouched, HangTogether, HasBigPart, HasUser, IsTarget, PaysAt, PaysIn, Touch, Touches, part_file, renamed, user_of}
unfoldable pub use Rattle.at_orders.specs.Parts.{Names, files_of_part}
pub use Rattle.at_orders.specs.Replies.{AreJust, IsListed, balances_with, no_replies, range_at, range_with, read_replies, replies_with}
pub use Rattle.at_orders.specs.Settled.{HasOwnRoom, IsSettled, is_own_payment}
pub use Rattle.at_orders.specs.Stages.{GroundTerms, HasMoreStages, IsStage, StageTerms, after_success, calls_made, first_stage, is_payment_from, ledger_at, payments_from, requests_at, requests_of, stage_after}
pub use Rattle.at_orders.specs.Trail.{Adds, AreKeptWhole, AreLed, HasTwin, HaveSameNumbers, IsAt, IsLatest, IsLink, IsPushed, IsTrail, IsUpTo, IsWalked, IsWalkedOn, IsWalking, IsNextStage, Looks, TurnsOver, no_link}
pub use Rattle.at_orders.specs.Walk.{AreAllCountedBefore, AreAllHeard, AreAllStages, AreApart, AreCountedBefore, AreHeard, AreHeardInPart, AreKept, AreLevel, ArePlaces, Grows, HasAllNext, HasFirstPlace, HasMoreNext, HasNext, HasNumbers, HasPlace, HasStage, IsGround, IsHeard, IsMadeTo, IsNextCall, IsNextLevel, IsNextPayment, IsSeen, IsStanding, IsWalkedTo, KeepsPlaces, StandsFor}
pub use Rattle.at_orders.specs.declared.error.OrdersError.TheVariants.{TooManyOrders}
pub use Rattle.at_orders.specs.declared.part.Part.{Part}
pub use Rattle.at_orders.specs.declared.parts.Parts.{Parts}
pub use Rattle.at_orders.specs.declared.replies.Range.{Range}
pub use Rattle.at_orders.specs.declared.replies.Replies.{Replies}
pub use Rattle.at_orders.specs.declared.stage.Stage.{Stage}
pub use Rattle.at_orders.specs.declared.trail.Link.{Link}
pub use Rattle.at_orders.specs.declared.trail.Trail.{Trail}
