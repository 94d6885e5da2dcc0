-- What this crate's proofs name of other crates and of its definitions, in one place.
pub use Rattle.std.proofs.Math.Seq.{get_or-append_seam, take-append_seam}
pub use Rattle.std.proofs.lemmas.Bool.{and_from, and_left, and_parts, and_right, cases_Bool, cases_eq, cases_lt, eq-eqb, eqb-false, eqb-true, le-ltb, leb-false, lt-ltb, ne_eqb}
pub use Rattle.std.proofs.lemmas.Grind.{common_steps}
pub use Rattle.std.proofs.lemmas.List.{append-nil, drop_more, get_or-map, get_or-set_other, get_or-set_same, get_or_append_left, get_or_default, get_or_past, get_or_push, get_or_read, length-append, length-drop, length-map, length_push, map-append, map-id, map-set, set-get_or, take-append-le, take_all, take_more, with_items_is}
pub use Rattle.std.proofs.lemmas.List.Elements.{All-append, All-map, All-nil, All-push, filter-append, filter_map-append}
pub use Rattle.std.proofs.lemmas.List.FromFn.{get_or-range_with_len, length-range_with_len, map-range_with_len_more}
pub use Rattle.std.proofs.lemmas.List.Sums.{sum_by-drop_more, sum_by-set, sum_by-take-le, sum_by_more, sum_by_push}
pub use Rattle.std.specs.Global.{Global}
pub use Rattle.std.specs.List.{cons_option, range_with_len}
pub use Rattle.std.specs.Vec.{vec_capacity, vec_len, with_item}
pub use Rattle.at_board.specs.Counting.{raised}
pub use Rattle.at_board.specs.Knowledge.Fresh.{IsBorrowed}
pub use Rattle.at_board.specs.Knowledge.Overviews.{IsOverviewOf, LearnsOverview, OverviewTerms, TakesIn}
pub use Rattle.at_board.specs.Knowledge.Parts.{asking_on, loads_of, no_part, own_part, part_asking, seen_as, with_asking, with_part}
pub use Rattle.at_board.specs.Knowledge.Seats.{BoardTerms, IsKept, IsOf, SeatTerms}
pub use Rattle.at_board.specs.Steps.Announce.{Announces, with_request}
pub use Rattle.at_board.specs.Steps.Decide.{with_decide, with_decision}
pub use Rattle.at_board.specs.Steps.LoadAnnounced.{LoadsAnnounced, all_of, with_row}
pub use Rattle.at_board.specs.Steps.LoadLength.{LoadsLength, with_load}
pub use Rattle.at_board.specs.Steps.LoadRequestWord.{LoadsRequestWord, with_loaded}
pub use Rattle.at_board.specs.Steps.Made.{MakesOnly}
pub use Rattle.at_board.specs.Steps.Publish.{Publishes, with_record}
pub use Rattle.at_board.specs.Steps.StoreRecordWord.{StoresWord, with_word}
pub use Rattle.at_board.specs.Steps.StoreRequestWord.{StoresRequestWord, with_request_word}
pub use Rattle.at_board.specs.Words.Addresses.{record_width}
pub use Rattle.at_board.specs.declared.knowledge.Asking.{Asking}
pub use Rattle.at_board.specs.declared.knowledge.Knowledge.{Knowledge}
pub use Rattle.at_board.specs.declared.knowledge.Loads.{Loads}
pub use Rattle.at_board.specs.declared.knowledge.Part.{Part}
pub use Rattle.at_board.specs.declared.step.BoardStep.{BoardStep}
pub use Rattle.at_board.specs.declared.words.TheConstants.{REQUEST_WORDS}
pub use Rattle.at_calling.proofs.Laws.Published.{published-MakesCallStep}
pub use Rattle.at_calling.proofs.Laws.Steps.{MakesOnly-MakesCallStep}
pub use Rattle.at_calling.specs.Calling.{CallingTerms, CountsCall, EndsCall, FollowsCall, IsCallWithin, IsWay, MakesCallStep, StartsFrom, call_turns_left, exchanges_made, exchanges_of, first_step, length_loaded, next_step, pass_before, publishes_of, steps_made, steps_of}
pub use Rattle.at_calling.specs.PayingAlone.{MakesPayStep, pay_length_at, pay_publishes_at}
pub use Rattle.at_calling.specs.PayingShared.{MakesShareStep, share_length_at, share_publishes_at}
pub use Rattle.at_calling.specs.Starting.{MakesStartStep, start_length_at}
pub use Rattle.at_calling.specs.Turning.{MakesTurnStep, help_length_at, publishes_at}
pub use Rattle.at_calling.specs.declared.call_stage.CallStage.{CallStage}
pub use Rattle.at_calling.specs.declared.call_stage.CallStage.TheVariants.{PayAlone, PayShared, Refuse, Refused}
pub use Rattle.at_calling.specs.declared.pay_stage.PayStage.{PayStage}
pub use Rattle.at_calling.specs.declared.share_stage.ShareStage.{ShareStage}
pub use Rattle.at_calling.specs.declared.start_stage.StartStage.{StartStage}
pub use Rattle.at_calling.specs.declared.turn_stage.TurnStage.{TurnStage}
pub use Rattle.at_fold.specs.Sums.{TotalSums}
pub use Rattle.at_history.proofs.Laws.Counts.{count_of-append, count_of-push_own, count_of-take_mono}
pub use Rattle.at_history.proofs.Laws.Cuts.{length-IsCut}
pub use Rattle.at_history.proofs.Laws.Histories.{ArePublishedBy-IsHistory}
pub use Rattle.at_history.proofs.Laws.Prefixes.{IsPrefix-count_of, IsPrefix-length, IsPrefix-refl, IsPrefix-trans, publications_of-IsPrefix, take-IsPrefix, take-IsPrefix-le, take-publication_at}
pub use Rattle.at_history.specs.BoardState.{publication_at}
pub use Rattle.at_history.specs.Cuts.{place}
pub use Rattle.at_history.specs.Histories.{IsHistory}
pub use Rattle.at_history.specs.Publications.{ArePublishedBy, IsPrefix, count_of, longer, no_publication, publications_of}
pub use Rattle.at_history.specs.Rounds.{rounds}
pub use Rattle.at_history.specs.declared.publication.Publication.{Publication}
pub use Rattle.at_history.specs.declared.request.Request.{Request}
pub use Rattle.at_journal.proofs.WholeLaws.{map-lines_of}
pub use Rattle.at_journal.specs.Calls.{calls_in}
pub use Rattle.at_journal.specs.Linearizable.{AreTimed, CallTimes, IsLinearizable}
pub use Rattle.at_ledger.specs.Account.{is_shared, is_single}
pub use Rattle.at_ledger.specs.Book.{BookTerms, account_of, is_owner}
pub use Rattle.at_ledger.specs.Call.{TargetPair}
pub use Rattle.at_ledger.specs.Files.{contents_of}
pub use Rattle.at_ledger.specs.Run.{lines_of}
pub use Rattle.at_ledger.specs.declared.call.Call.{Call}
pub use Rattle.at_ledger.specs.declared.call.Call.TheVariants.{Pay, Read, Transfer}
pub use Rattle.at_ledger.specs.declared.call.Line.{Line}
pub use Rattle.at_ledger.specs.declared.call.Reply.{Reply}
pub use Rattle.at_ledger.specs.declared.call.Reply.TheVariants.{Balance, Done, Full, NotOwner, Short}
pub use Rattle.at_log.proofs.Laws.Buckets.{range_with_len-more}
pub use Rattle.at_log.proofs.LeftLaws.Keys.{publication_at-IsPrefix}
pub use Rattle.at_log.specs.ClosingTerms.{ClosingTerms, log_published, receipts_of}
pub use Rattle.at_log.specs.Coherent.{Coherent}
pub use Rattle.at_log.specs.InTime.{IsNotBehind, KeepsTime, look_at}
pub use Rattle.at_log.specs.JournalOrder.{journal_lines}
pub use Rattle.at_log.specs.Placed.{IsPlaced, done, full, not_owner, read, round, short}
pub use Rattle.at_log.specs.Receipts.{calls_of, receipt_at}
pub use Rattle.at_log.specs.Told.{keys_of}
pub use Rattle.at_log.specs.declared.receipt.At.{At}
pub use Rattle.at_log.specs.declared.receipt.At.TheVariants.{Cut, Own, Previous, Round}
pub use Rattle.at_log.specs.declared.receipt.Receipt.{Receipt}
pub use Rattle.at_machines.specs.Asking.{AnnouncesAsked, AskingTerms, StoresNextRequestWord, request_asked}
pub use Rattle.at_machines.specs.Deciding.{DecidingTerms, MakesStep, NextOfRound, publishes_in, round_in}
pub use Rattle.at_machines.specs.LoadingRow.{MakesLoadOf, NextRowLoad}
pub use Rattle.at_machines.specs.Looking.{MakesLookLoad, length_at}
pub use Rattle.at_machines.specs.Snapping.{MakesLoad, NextLoad, length_in}
pub use Rattle.at_machines.specs.declared.look_stage.LookStage.{LookStage}
pub use Rattle.at_object.proofs.Laws.Calls.{begins-CallMade, call-CallMade, process-CallMade}
pub use Rattle.at_object.proofs.Laws.Keys.{key-in, key-le, key-same, look-in, look-le, look-same}
pub use Rattle.at_object.proofs.Laws.Looks.{decided_or_refused, look-CallMade, refused_at-CallMade}
pub use Rattle.at_object.specs.CallCounts.{CallCountTerms}
pub use Rattle.at_object.specs.Calls.{CallMade, PaymentMade, StaysWithin}
pub use Rattle.at_object.specs.Closings.{AreAccountedFor, ClosedTerms, HasAllLogs, IsAccountedFor}
pub use Rattle.at_object.specs.Parted.{HasMemoryFor, IsOfOnePass, pass_of}
pub use Rattle.at_object.specs.Passes.{AreNewPasses, IsNewPass, IsPassOf, PassTerms, Stands, asked_by, past_receipts, seat_of, sent_by}
pub use Rattle.at_object.specs.PastCalls.{PastCall}
pub use Rattle.at_object.specs.Payments.{IsDecidedByBalance, IsRefused, has_used_up, refusal_in, refusal_of}
pub use Rattle.at_object.specs.declared.parts.Rest.{Rest}
pub use Rattle.at_payments.specs.Standing.{cut_behind}
pub use Rattle.at_snapshot.specs.Snapshots.{IsSnapshot}
pub use Rattle.at_stepper.specs.Callers.{BeginsCall, CallerTerms, HasLearned, IsAnswered, IsFile, IsNewCaller, IsNextOf, IsReadyFrom, IsReadyToTurn, IsStillCalling, IsTurned, LeavesCaller, answers_in, caller_turns_left, calls_left_of, is_refused, most_turns, next_call, own_seen, reply_in, steps_in, steps_so_far}
pub use Rattle.at_stepper.specs.InTurns.{AreBorrowed, AreLoaded, AreLoadedOrBorrowed, CountsLoads, IsJournalOf, IsLastLoad, IsMadeAs, IsMadeByTurns, LooksWithin, PublishInOrder, RunsTo, is_turn_of, published_by_then, replies_by, times_of, turn_at, turns_of_call}
unfoldable pub use Rattle.at_stepper.specs.InTurns.{length_loaded_in}
pub use Rattle.at_stepper.specs.InTurns.RunsTo.{goes_on, starts}
pub use Rattle.at_stepper.specs.KeptCallers.{IsCallerOf, IsNextInMaking, StartsNext, TakesTurn, caller_of, stage_in}
pub use Rattle.at_stepper.specs.KeptStepping.{AreAllIn, AreCallersOn, AreSplit, AreStartsFor, HasAnsweredAll, HaveJustTheirOwn, IsAllPublished, IsAnsweredBy, IsCallerOn, caller_passes, passes_in, run_in, stepper_terms}
pub use Rattle.at_stepper.specs.Replays.{HasTurnedBy, IsSameRun, TurnAll, TurnBy, TurnInRounds}
pub use Rattle.at_stepper.specs.Schedules.{AreTurnsBy, AreTurnsOf, answered_by}
unfoldable pub use Rattle.at_stepper.specs.Schedules.{rounds_of_turns}
pub use Rattle.at_stepper.specs.Schedules.AreTurnsBy.{idle, none, turn}
pub use Rattle.at_stepper.specs.Stepping.{AreBegunCallers, ChangesOne, IsBegunCaller, IsNewStepper, IsNextStep, IsOver, PublishesAtMostOne, SeesPublished, StepperTerms, TurnsOne, all_turns_left, calls_left, files_of}
pub use Rattle.at_stepper.specs.declared.caller.Making.{Making}
pub use Rattle.at_stepper.specs.declared.caller.Start.{Start}
pub use Rattle.at_stepper.specs.declared.progress.Progress.{Progress}
pub use Rattle.at_stepper.specs.declared.replaying.TurnMade.{TurnMade}
pub use Rattle.at_stepper.specs.declared.run.Run.{Run}
pub use Rattle.at_stepper.specs.declared.turned.Turned.{Turned}
pub use Rattle.at_stepper.specs.declared.turned.Turned.TheVariants.{Answer, Step}
