-- What this crate's proofs name of other crates and of its definitions, in one place.
pub use Rattle.std.proofs.lemmas.Bool.{cases_Bool, cases_lt, eq-eqb, ne_eqb}
pub use Rattle.std.proofs.lemmas.List.{append_assoc, get_or-set_same, length-append, length-take}
pub use Rattle.std.proofs.lemmas.List.Sums.{get_or-le-sum_by, sum_by-set}
pub use Rattle.std.proofs.lemmas.Nat.{mul-le}
pub use Rattle.std.specs.List.{sum}
pub use Rattle.at_base.specs.Decision.{word_of}
pub use Rattle.at_base.specs.declared.decision.Decision.{Decision}
pub use Rattle.at_board.specs.Counting.{raised}
pub use Rattle.at_board.specs.Knowledge.Agreement.{AgreesWithSeen}
pub use Rattle.at_board.specs.Knowledge.Candidates.{HasLoadedRows}
pub use Rattle.at_board.specs.Knowledge.Parts.{asking_on, loads_of, no_asking, no_part, own_part, part_asking, seen_as, with_asking, with_part}
pub use Rattle.at_board.specs.Knowledge.Seats.{BoardTerms, IsKept, IsOf, SeatTerms}
pub use Rattle.at_board.specs.Steps.Announce.{Announces, with_request}
pub use Rattle.at_board.specs.Steps.LoadAnnounced.{all_of, with_row}
pub use Rattle.at_board.specs.Steps.LoadLength.{with_load}
pub use Rattle.at_board.specs.Steps.LoadRequestWord.{LoadsRequestWord, with_loaded}
pub use Rattle.at_board.specs.Steps.Made.{MakesOnly}
pub use Rattle.at_board.specs.Steps.Publish.{Publishes, with_record}
pub use Rattle.at_board.specs.Steps.StoreRecordWord.{StoresWord, with_word}
pub use Rattle.at_board.specs.Steps.StoreRequestWord.{MayStoreRequest, StoresRequestWord, with_request_word}
pub use Rattle.at_board.specs.Words.Addresses.{record_width}
pub use Rattle.at_board.specs.Words.Packed.{record_words, request_words}
pub use Rattle.at_board.specs.declared.knowledge.Asking.{Asking}
pub use Rattle.at_board.specs.declared.knowledge.Knowledge.{Knowledge}
pub use Rattle.at_board.specs.declared.knowledge.LoadedWord.{LoadedWord}
pub use Rattle.at_board.specs.declared.knowledge.Part.{Part}
pub use Rattle.at_board.specs.declared.knowledge.SeenRequest.{SeenRequest}
pub use Rattle.at_board.specs.declared.words.TheConstants.{RECORD_WORDS, REQUEST_WORDS}
pub use Rattle.at_calling.specs.Calling.{CallingTerms, CountsCall, FollowsCall, IsCallWithin, IsWay, MakesCallStep, call_turns_left, exchanges_made, exchanges_of, first_step, next_step, pass_before, publishes_of, steps_made, steps_of}
pub use Rattle.at_calling.specs.KeptCalling.{IsCallStageSo, IsCallingSo, IsMakingStill, TakesCallTurn, calling_of}
pub use Rattle.at_calling.specs.KeptPayingAlone.{IsAppendingThen, IsLookingFirst, IsPayStageSo, IsPayingAloneSo, TakesPayTurn}
pub use Rattle.at_calling.specs.KeptPayingShared.{HasCountedSo, HasHelped, IsHelpingThen, IsPayingSharedSo, IsShareStageSo, IsStartingFirst, TakesShareTurn}
pub use Rattle.at_calling.specs.KeptStarting.{HasLookedToAsk, IsAskingThen, IsCollectingThen, IsLookingToAsk, IsStartStageSo, IsStartingSo, TakesStartTurn}
pub use Rattle.at_calling.specs.KeptTurning.{IsDecidingThen, IsLookingStill, IsTurnStageSo, IsTurningSo, TakesHelpStep}
pub use Rattle.at_calling.specs.PayingAlone.{AnswersAlone, FollowsPay, HasSameAsking, IsPayWithin, MakesPayStep, PayingAloneTerms, append_steps, pay_publishes_at, pay_step_at, pay_turns_left, turns_in, turns_made}
pub use Rattle.at_calling.specs.PayingShared.{AnswersInRound, DecidesFew, FollowsShare, MakesShareStep, PayingSharedTerms, settling_steps, share_exchanges_at, share_exchanges_made, share_publishes_at, share_step_at, share_steps, share_turns_left, share_turns_most, unless_settled, unless_starting}
pub use Rattle.at_calling.specs.Reading.{CountsOthersStill, IsReadOf, LeavesTotals, ReadingTerms, SeesOthersStill, counted_so_far, newly_seen}
pub use Rattle.at_calling.specs.Starting.{FollowsStart, HasSameCounts, IsStartOf, IsStartWithin, MakesStartStep, StartingTerms, asking_steps_of, start_step_at, start_steps, start_turns_after, start_turns_in, start_turns_left, start_turns_made, unless_ended}
pub use Rattle.at_calling.specs.Turning.{FollowsTurn, IsHelpOf, IsHelpWithin, LeavesSeat, MakesTurnStep, TurningTerms, WaitsOn, exchanges_at, help_step_at, help_steps, help_turns_in, help_turns_left, help_turns_made, publishes_at}
pub use Rattle.at_calling.specs.contracts.starting.Starting.{the_view}
pub use Rattle.at_calling.specs.declared.call_stage.CallStage.{CallStage}
pub use Rattle.at_calling.specs.declared.call_stage.CallStage.TheVariants.{PayAlone, PayShared, Refuse, Refused}
pub use Rattle.at_calling.specs.declared.pay_stage.PayStage.{PayStage}
pub use Rattle.at_calling.specs.declared.pay_stage.PayStage.TheVariants.{Append, Look}
pub use Rattle.at_calling.specs.declared.share_stage.ShareStage.{ShareStage}
pub use Rattle.at_calling.specs.declared.share_stage.ShareStage.TheVariants.{Ended, Help, Start}
pub use Rattle.at_calling.specs.declared.start_stage.StartStage.{StartStage}
pub use Rattle.at_calling.specs.declared.start_stage.StartStage.TheVariants.{Ask, Collect}
pub use Rattle.at_calling.specs.declared.turn_stage.TurnStage.{TurnStage}
pub use Rattle.at_calling.specs.declared.turn_stage.TurnStage.TheVariants.{Decide, Found}
pub use Rattle.at_fold.proofs.Laws.LoadedRecords.{sum-caught}
pub use Rattle.at_fold.proofs.Laws.MorePublished.{StaysCounted-HasCounted}
pub use Rattle.at_fold.specs.Counted.{IsDecidedIn}
pub use Rattle.at_fold.specs.HasCounted.{CountsAccount, CountsCut, CountsSlot, HasCounted, StaysCounted}
pub use Rattle.at_fold.specs.Sums.{TotalSums}
pub use Rattle.at_history.proofs.Laws.Counts.{length-counts, sum-counts}
pub use Rattle.at_history.proofs.Laws.Covers.{single_or_shared}
pub use Rattle.at_history.proofs.Laws.Cuts.{length-IsCut, place-IsCut-le, sum-Covers-le}
pub use Rattle.at_history.proofs.Laws.Histories.{ArePublishedBy-IsHistory}
pub use Rattle.at_history.proofs.Laws.Prefixes.{IsPrefix-length, IsPrefix-refl, IsPrefix-trans}
pub use Rattle.at_history.specs.Balances.{balance_after}
pub use Rattle.at_history.specs.Cuts.{place, places_max, prefix_of}
pub use Rattle.at_history.specs.Histories.{IsHistory}
pub use Rattle.at_history.specs.Moves.{AreRuns}
pub use Rattle.at_history.specs.Publications.{IsPrefix, counts}
pub use Rattle.at_history.specs.Rounds.{is_settled, owns_of, rounds}
pub use Rattle.at_history.specs.Sound.{AreTargets}
pub use Rattle.at_history.specs.declared.publication.Entry.{Entry}
pub use Rattle.at_history.specs.declared.publication.Publication.{Publication}
pub use Rattle.at_history.specs.declared.request.Request.{Request}
pub use Rattle.at_ledger.specs.Account.{is_shared, is_single, no_account, slot_in, slots_of}
pub use Rattle.at_ledger.specs.Book.{BookTerms, HasSlot, IsBegun, account_of, is_owner}
pub use Rattle.at_ledger.specs.Call.{AreTargetsOn, IsCallOn, TargetPair, amount_of, first_account, payout_of}
pub use Rattle.at_ledger.specs.Limits.{most_owners}
pub use Rattle.at_ledger.specs.declared.call.Call.{Call}
pub use Rattle.at_ledger.specs.declared.call.Call.TheVariants.{Pay, Read, Transfer}
pub use Rattle.at_ledger.specs.declared.call.Reply.{Reply}
pub use Rattle.at_ledger.specs.declared.call.Reply.TheVariants.{Balance, Done, Full, NotOwner, Short}
pub use Rattle.at_log.proofs.Laws.Replies.{first_account-payout, same_payout}
pub use Rattle.at_log.proofs.LeftLaws.Calls.{StandsBehind-cut, length-prefix_of-le}
pub use Rattle.at_log.specs.Appending.{MayAppend}
pub use Rattle.at_log.specs.BetweenCalls.{IsBetweenCalls}
pub use Rattle.at_log.specs.LastRecord.{IsLast}
pub use Rattle.at_log.specs.Placed.{IsPlaced, read}
pub use Rattle.at_log.specs.Receipts.{asks_in, is_at_own, is_at_round}
pub use Rattle.at_log.specs.Told.{key_of}
pub use Rattle.at_log.specs.declared.receipt.At.{At}
pub use Rattle.at_log.specs.declared.receipt.At.TheVariants.{Cut, Own, Previous}
pub use Rattle.at_log.specs.declared.receipt.Receipt.{Receipt}
pub use Rattle.at_machines.proofs.Laws.Snapshots.{snapshot_steps-le}
pub use Rattle.at_machines.proofs.Laws.Steps.{MakesOnly-MakesLookLoad, MakesOnly-MakesNextLoad, MakesOnly-MakesStep, MakesOnly-append, MakesOnly-ask}
pub use Rattle.at_machines.specs.Appending.{AppendingTerms, StoresNextWord, append_step, appending_after, publication_of, published_after, starting_appending}
pub use Rattle.at_machines.specs.Asking.{AnnouncesAsked, AskingTerms, StoresNextRequestWord, ask_step, asking_after, request_asked, starting_to_ask}
pub use Rattle.at_machines.specs.CollectingRows.{CollectingRowsTerms, MakesNextLoad, rows_after, starting_rows}
pub use Rattle.at_machines.specs.Deciding.{DecidingTerms, MakesRoundStep, MakesStep, NextOfRound, deciding_after, exchanges_in, left_of_round, publishes_in, round_in, starting_deciding, step_in_round}
pub use Rattle.at_machines.specs.Deciding.NextOfRound.{exchange, record_word}
pub use Rattle.at_machines.specs.LoadingRow.{MakesLoadOf, NextRowLoad, row_step}
pub use Rattle.at_machines.specs.LoadingRow.NextRowLoad.{announced_word, nothing, request_word}
pub use Rattle.at_machines.specs.Looking.{IsWithin, IsWithinOneMore, LookingTerms, MakesLookLoad, first_load, look_turns_left}
pub use Rattle.at_machines.specs.Snapping.{MakesLoad, NextLoad}
pub use Rattle.at_machines.specs.declared.look_stage.LookStage.{LookStage}
pub use Rattle.at_object.proofs.Laws.Alone.{IsPass-alone, asking-alone, decided-alone}
pub use Rattle.at_object.proofs.Laws.Calls.{call-CallMade, placed-CallMade, process-CallMade, stands-CallMade}
pub use Rattle.at_object.proofs.Laws.InRound.{IsPass-round}
pub use Rattle.at_object.proofs.Laws.Looked.{IsPass-HasLoaded, Told-HasLoaded, asking-HasLoaded, between-IsPass, own_part-HasLoaded, owns_of-HasLoaded}
pub use Rattle.at_object.proofs.Laws.Looks.{look-Cut, place-IsSnapshot}
pub use Rattle.at_object.proofs.Laws.Made.{PaymentMade-alone, PaymentMade-refused, PaymentMade-round, others-le, refusal_in-payout}
pub use Rattle.at_object.proofs.Laws.OnePass.{IsOfOnePass-counted}
pub use Rattle.at_object.proofs.Laws.Room.{HasSlot-is_owner, MayStoreRequest-room, sent-room}
pub use Rattle.at_object.proofs.Laws.Within.{AreTargetsOn-single, call_steps-payout, may_exchange-payout, read_or_refused}
pub use Rattle.at_object.specs.CallCounts.{with_one_call}
pub use Rattle.at_object.specs.Calls.{CallMade, PaymentMade, ReadMade, StaysWithin, call_steps, may_exchange}
pub use Rattle.at_object.specs.Paid.{PaysAlone, PaysInRound}
pub use Rattle.at_object.specs.Parted.{IsOfOnePass, after_one_call, pass_of}
pub use Rattle.at_object.specs.Passes.{IsPass, PassTerms, Stands, counted_anew, others_counted}
pub use Rattle.at_object.specs.PastCalls.{PastCall}
pub use Rattle.at_object.specs.Payments.{IsDecidedByBalance, IsRefused, has_used_up, payment_steps, refusal_in, refusal_of, sent_after, shared_steps, single_steps}
pub use Rattle.at_object.specs.declared.parts.Rest.{Rest}
pub use Rattle.at_payments.proofs.Laws.Looks.{CountsAccount-HasLooked, CountsCut-HasLooked, HasCounted-HasLooked, balance-HasLooked, first-HasLoaded, published-HasLoaded}
pub use Rattle.at_payments.proofs.Laws.OwnRecords.{owns_of-IsPrefix-take}
pub use Rattle.at_payments.proofs.Laws.Paid.{IsPaid, IsSnapshot-IsPaid, begins-IsPaid, cut_behind-IsPaid, first-IsPaid, more-IsPaid, number-IsPaid, place-IsPaid, prefix_of-IsPaid, record-IsPaid, within-IsPaid}
pub use Rattle.at_payments.proofs.Laws.Placed.{IsPlaced-done, IsPlaced-short, MayAppend-IsSnapshot, payment_reply-done, payment_reply-short}
pub use Rattle.at_payments.proofs.SharedLaws.Added.{Adds, Adds-HasLoaded, Adds-HasStarted, Adds-trans, HasAccount-Adds}
pub use Rattle.at_payments.proofs.SharedLaws.After.{IsAfter, IsAfter-Decides, IsAfter-Publishes, own_part-Decides, own_part-Publishes}
pub use Rattle.at_payments.proofs.SharedLaws.Asked.{StandsAfterSnapshot-SettlesInTurns}
pub use Rattle.at_payments.proofs.SharedLaws.Counting.{steps_after}
pub use Rattle.at_payments.proofs.SharedLaws.Placing.{StandsInRound-IsAnswerOf}
pub use Rattle.at_payments.proofs.SharedLaws.Started.{HasStarted-StartsBy, IsHelping-StartsBy, Keeps-StartsBy, MayAskFor-IsSnapshot, number-StartsBy, own_counted-StartsBy, place-IsSnapshot-le, since-StartsBy}
pub use Rattle.at_payments.proofs.SharedLaws.Starting.{Keeps-HasLoaded, same_some}
pub use Rattle.at_payments.proofs.SharedLaws.Turned.{FindsSettled-turn, HelpsDecide-turn, IsHelping-turn, IsHelpingAt-turn, IsPlaced-turn-found, IsPlaced-turn-own, StandsAfter-turn-found, StandsAfter-turn-own, begins-turn, decides-turn, decides_elsewhere-turn, free-turn, heard-turn, overtaken-turn, process-turn, published-turn, rounds-turn}
pub use Rattle.at_payments.proofs.SharedLaws.Turning.{Adds-HelpAnswers, settled-SettlesOwn}
pub use Rattle.at_payments.proofs.SharedLaws.Turns.{Adds-HasTurned, AsksOnce-Adds}
pub use Rattle.at_payments.specs.HelpTurns.{AnswersRound, DecidesNext, IsAnswerOf, NamesOwn}
pub use Rattle.at_payments.specs.HelpingTerms.{HelpingTerms, helping_of}
pub use Rattle.at_payments.specs.Helpings.{HasAllSettled, HasStarted, IsHelping, decides_made, decides_on, heard_on}
pub use Rattle.at_payments.specs.Looks.{HasLooked}
pub use Rattle.at_payments.specs.PaymentTurns.{HasTurned, SettlesInTurns}
pub use Rattle.at_payments.specs.PaymentTurns.HasTurned.{again, none}
pub use Rattle.at_payments.specs.Settling.{AsksOnce, asking_steps, round_steps}
pub use Rattle.at_payments.specs.Standing.{IsOnlyOwner, cut_behind, newly_counted, own_record, payment_reply}
pub use Rattle.at_payments.specs.Starting.{StartsBy}
pub use Rattle.at_payments.specs.declared.helping.HelpTurn.{HelpTurn}
pub use Rattle.at_payments.specs.declared.helping.HelpTurn.TheVariants.{More, Settled}
pub use Rattle.at_requests.proofs.Laws.Accounts.{HasAccount, HasAccount-IsSeat, asking_on-with_asking}
pub use Rattle.at_requests.specs.Asks.{HasAsked, HasLoadedNothing, MayAskFor, asked_for, opened}
pub use Rattle.at_requests.specs.OpenRequests.{request_of}
pub use Rattle.at_requests.specs.Rows.{AreCandidates, CollectsRows}
pub use Rattle.at_requests.specs.declared.open_request.OpenRequest.{OpenRequest}
pub use Rattle.at_snapshot.specs.Collected.{HasLoaded}
pub use Rattle.at_snapshot.specs.Scans.{SeesOwnRecords}
pub use Rattle.at_snapshot.specs.Snapshots.{IsSnapshot, snapshot_steps}
