-- What this crate's proofs name of other crates and of its definitions, in one place.
pub use Rattle.std.proofs.Math.Nat.{suc-mul}
pub use Rattle.std.proofs.lemmas.Bool.{cases_eq, cases_lt, eq-eqb, ne_eqb}
pub use Rattle.std.proofs.lemmas.Grind.{common_steps, same_number_lists}
pub use Rattle.std.proofs.lemmas.List.{append_assoc, get_or-set_other, get_or-set_same, get_or_append_left, length-append, length-set, set-get_or}
pub use Rattle.std.proofs.lemmas.List.FromFn.{get_or-map-range_with_len, map-range_with_len_more}
pub use Rattle.std.proofs.lemmas.Nat.{mul-le}
pub use Rattle.std.specs.List.{Contains, range_with_len, sum}
pub use Rattle.std.specs.Option.{is_some, option_to_list}
pub use Rattle.at_base.specs.Counts.{Covers}
pub use Rattle.at_base.specs.Decision.{word_of}
pub use Rattle.at_base.specs.declared.decision.Decision.{Decision}
pub use Rattle.at_board.specs.Knowledge.Candidates.{HasLoadedRows}
pub use Rattle.at_board.specs.Knowledge.Overviews.{LearnsOverview}
pub use Rattle.at_board.specs.Knowledge.Parts.{SeesDecision, SeesRequest, asking_on, loads_of, no_part, own_part}
pub use Rattle.at_board.specs.Knowledge.Records.{IsRecordWord, RecordWordTerms, SeesRecord, seen_word}
pub use Rattle.at_board.specs.Knowledge.Seats.{IsKept, SeatTerms}
pub use Rattle.at_board.specs.Steps.Announce.{Announces, MayAnnounce}
pub use Rattle.at_board.specs.Steps.Decide.{Decides, MayPropose}
pub use Rattle.at_board.specs.Steps.LoadAnnounced.{LoadsAnnounced}
pub use Rattle.at_board.specs.Steps.LoadLength.{LoadsLength}
pub use Rattle.at_board.specs.Steps.LoadRecordWord.{MayLoadWord}
pub use Rattle.at_board.specs.Steps.LoadRequestWord.{KnowsOf, LoadsRequestWord, MayLoadRequest}
pub use Rattle.at_board.specs.Steps.Made.{IsStep, MakesOnly}
pub use Rattle.at_board.specs.Steps.Publish.{FitsNext, MayPublish, Publishes}
pub use Rattle.at_board.specs.Steps.StoreRecordWord.{MayStoreWord, StoresWord}
pub use Rattle.at_board.specs.Steps.StoreRequestWord.{MayStoreRequest, StoresRequestWord}
pub use Rattle.at_board.specs.Words.Addresses.{record_width}
pub use Rattle.at_board.specs.Words.Packed.{IsForm, entry_words, record_words, request_words}
pub use Rattle.at_board.specs.Words.Targets.{ArePacked, accounts_of}
pub use Rattle.at_board.specs.declared.knowledge.Asking.{Asking}
pub use Rattle.at_board.specs.declared.knowledge.Knowledge.{Knowledge}
pub use Rattle.at_board.specs.declared.knowledge.Loads.{Loads}
pub use Rattle.at_board.specs.declared.knowledge.Part.{Part}
pub use Rattle.at_board.specs.declared.knowledge.SeenDecision.{SeenDecision}
pub use Rattle.at_board.specs.declared.step.BoardStep.{BoardStep}
pub use Rattle.at_board.specs.declared.step.BoardWord.{BoardWord}
pub use Rattle.at_board.specs.declared.words.TheConstants.{RECORD_WORDS, REQUEST_WORDS}
pub use Rattle.at_fold.proofs.Laws.CatchingUp.{IsCatchingUp-more, MayCount-IsCatchingUp, count_of-IsCatchingUp, upto-IsCatchingUp}
pub use Rattle.at_fold.proofs.Laws.LoadedRecords.{sum-caught}
pub use Rattle.at_fold.proofs.Laws.MorePublished.{StaysCounted-HasCounted}
pub use Rattle.at_fold.specs.CatchingUp.{IsCatchingUp}
pub use Rattle.at_fold.specs.HasCounted.{CountsCut, HasCounted, HasRecords, MayCount, StaysCounted}
pub use Rattle.at_fold.specs.Sums.{TotalSums}
pub use Rattle.at_history.proofs.Laws.Counts.{get_or-counts, length-counts}
pub use Rattle.at_history.proofs.Laws.Cuts.{IsCut-IsPrefix, length-IsCut, place-IsCut-le, sum-Covers-le}
pub use Rattle.at_history.proofs.Laws.Histories.{ArePublishedBy-IsHistory}
pub use Rattle.at_history.proofs.Laws.Prefixes.{IsPrefix-refl, IsPrefix-trans}
pub use Rattle.at_history.proofs.Laws.Rooms.{log_room_of-le}
pub use Rattle.at_history.specs.BoardState.{publication_at}
pub use Rattle.at_history.specs.Cuts.{IsCut, place, places_max, prefix_of}
pub use Rattle.at_history.specs.Publications.{IsPrefix, count_of, publications_of}
pub use Rattle.at_history.specs.Rounds.{is_settled, rounds}
pub use Rattle.at_history.specs.Sound.{IsSoundRound}
pub use Rattle.at_history.specs.declared.publication.Entry.{Entry}
pub use Rattle.at_history.specs.declared.publication.Publication.{Publication}
pub use Rattle.at_history.specs.declared.request.Request.{Request}
pub use Rattle.at_ledger.specs.Account.{slots_of}
pub use Rattle.at_ledger.specs.Book.{BookTerms, HasSlot, IsBegun, IsBook, account_of}
pub use Rattle.at_ledger.specs.Call.{AreTargetsOn, TargetPair}
pub use Rattle.at_log.proofs.Laws.LastRecord.{IsLast-Publishes}
pub use Rattle.at_log.proofs.Laws.SeenRecords.{IsViewOf-IsLoaded, get_or-record_words, small-IsRecordWord}
pub use Rattle.at_log.proofs.Laws.StoredWords.{FitsNext-MayAppend, IsStoring-more, MayPublish-IsStoring, MayStoreWord-IsStoring, Publishes-IsStoring}
pub use Rattle.at_log.specs.Appending.{IsStoring, MayAppend}
pub use Rattle.at_log.specs.ClosingTerms.{published_by}
pub use Rattle.at_log.specs.LastRecord.{IsLast}
pub use Rattle.at_log.specs.Loading.{IsEntryOf, IsViewOf}
pub use Rattle.at_log.specs.declared.record.Record.{Record}
pub use Rattle.at_machines.specs.Appending.{AppendingTerms, StoresNextWord, append_step, appending_after, publication_of, starting_appending, store_step}
pub use Rattle.at_machines.specs.Asking.{AnnouncesAsked, AskingTerms, StoresNextRequestWord, ask_step, ask_step_in, ask_step_of, asking_after, request_asked, starting_to_ask}
pub use Rattle.at_machines.specs.CatchingUp.{CatchingUpTerms, CountsNext, FollowsLoad, MayLoadLeft, catch_step, loaded_of, loads_left, number_left, words_held}
pub use Rattle.at_machines.specs.Collecting.{CollectingTerms, LoadsLengthOf, collecting_after, starting_collecting}
pub use Rattle.at_machines.specs.CollectingRows.{CollectingRowsTerms, GoesOn, MakesNextLoad, rows_after}
pub use Rattle.at_machines.specs.Deciding.{DecidingTerms, MakesRoundStep, MakesStep, NextOfRound, next_of_round, record_word, round_in, step_in_round}
pub use Rattle.at_machines.specs.Kept.{IsAppendingSo, IsCollectingSo, IsLoadingSo, collecting_of}
pub use Rattle.at_machines.specs.KeptAsking.{IsAskingSo}
pub use Rattle.at_machines.specs.KeptCatchingUp.{IsCatchingUpSo, IsLoadingNext}
pub use Rattle.at_machines.specs.KeptDeciding.{HasDecided, HasLoadedDecided, IsDecidingSo}
pub use Rattle.at_machines.specs.KeptLooking.{IsLookingSo}
pub use Rattle.at_machines.specs.KeptRequests.{IsLoadingRequestSo}
pub use Rattle.at_machines.specs.KeptRows.{IsCollectingRowsSo, IsLoadingRowSo}
pub use Rattle.at_machines.specs.KeptSnapshots.{HasLoadedSoFar, IsSnapped, IsSnappingSo, LeadsTo, TurnsStage, scan_of}
pub use Rattle.at_machines.specs.Loading.{LoadingTerms, entry_step, loading_after, loading_with, starting_loading}
pub use Rattle.at_machines.specs.LoadingRequest.{LoadingRequestTerms, request_after, starting_request}
pub use Rattle.at_machines.specs.LoadingRow.{LoadingRowTerms, MakesLoadOf, NextRowLoad, row_after, row_step, row_turns, starting_row}
pub use Rattle.at_machines.specs.LoadingRow.NextRowLoad.{announced_word, nothing, request_word}
pub use Rattle.at_machines.specs.Looking.{FollowsLook, LookingTerms, MakesLookLoad, look_turns_left, step_at}
pub use Rattle.at_machines.specs.Snapping.{MakesLoad, MayFollow, NextLoad, SnappingTerms, left_of, step_in}
pub use Rattle.at_machines.specs.contracts.collecting_rows.CollectingRows.{the_view}
pub use Rattle.at_machines.specs.declared.look_stage.LookStage.{LookStage}
pub use Rattle.at_machines.specs.declared.look_stage.LookStage.TheVariants.{CatchUp, Snap}
pub use Rattle.at_machines.specs.declared.round_stage.RoundStage.{RoundStage}
pub use Rattle.at_machines.specs.declared.round_stage.RoundStage.TheVariants.{Loading, Proposing, Publishing}
pub use Rattle.at_machines.specs.declared.row_stage.RowStage.{RowStage}
pub use Rattle.at_machines.specs.declared.row_stage.RowStage.TheVariants.{Announced, Last}
pub use Rattle.at_machines.specs.declared.stage.Stage.{Stage}
pub use Rattle.at_machines.specs.declared.stage.Stage.TheVariants.{Borrow, Collect, Ended}
pub use Rattle.at_payments.proofs.Laws.Looks.{Covers-IsSnapshot, HasRecords-IsCut}
pub use Rattle.at_payments.proofs.SharedLaws.After.{HasAccount-IsAfter, IsAfter, IsAfter-Decides, IsAfter-LoadsRequest, IsAfter-trans, own_part-Decides, own_part-LoadsRequest}
pub use Rattle.at_payments.proofs.SharedLaws.Turns.{IsSoundRound-Decides}
pub use Rattle.at_payments.specs.HelpTurns.{DecidesNext}
pub use Rattle.at_payments.specs.HelpingTerms.{HelpingTerms}
pub use Rattle.at_payments.specs.Helpings.{IsHelpingAt}
pub use Rattle.at_payments.specs.Looks.{HasLooked}
pub use Rattle.at_requests.proofs.Laws.Accounts.{HasAccount, HasAccount-IsSeat, asking_on-with_asking}
pub use Rattle.at_requests.proofs.Laws.Asking.{Announces-IsStoringRequest, HasAsked-Announces, HasLoadedNothing-Announces, IsStoringRequest-more, IsStoringRequest-start, MayAnnounce-IsStoringRequest, MayAskFor-slot, MayStoreRequest-IsStoringRequest}
pub use Rattle.at_requests.proofs.Laws.Collecting.{AreCandidates-IsCollectingRows, CollectsRows-IsCollectingRows, HasAsked-IsCollectingRows, HasLoadedRows-IsCollectingRows, IsCollectingRows-row, IsCollectingRows-start, SeesRequest-HasAsked, steps-IsCollectingRows}
pub use Rattle.at_requests.proofs.Laws.Loading.{AreTargetsOn-AreTargets, IsLoaded-more, IsLoaded-start, KnowsOf-IsLoaded, LoadsRequest-IsLoading, account-KnowsOf, since-IsLoading}
pub use Rattle.at_requests.proofs.Laws.Rows.{KnowsOf-LoadsAnnounced, LoadsRow-other, LoadsRow-own}
pub use Rattle.at_requests.specs.Asks.{HasAsked, HasLoadedNothing, MayAskFor, asked_for, opened}
pub use Rattle.at_requests.specs.Collecting.{IsCollectingRows}
pub use Rattle.at_requests.specs.Decided.{DecidesAs}
pub use Rattle.at_requests.specs.Loading.{IsLoading}
pub use Rattle.at_requests.specs.Loads.{LoadsRequest, loaded_words}
pub use Rattle.at_requests.specs.OpenRequests.{request_of, seen_of}
pub use Rattle.at_requests.specs.Rows.{AreCandidates, CollectsRows, LoadsRow, row_steps}
pub use Rattle.at_requests.specs.Storing.{with_request_stored}
pub use Rattle.at_requests.specs.declared.open_request.OpenRequest.{OpenRequest}
pub use Rattle.at_snapshot.proofs.Laws.Collects.{IsCollect-IsCollecting, IsCollecting-load, collect_of-IsCollecting}
pub use Rattle.at_snapshot.proofs.Laws.Loads.{HasLoaded-LoadsLength, HasLoaded-trans, loads_of-same, parts-HasLoaded}
pub use Rattle.at_snapshot.proofs.Laws.Scans.{length-collect_of}
pub use Rattle.at_snapshot.proofs.Laws.Turns.{IsSnapped-IsSnapping, IsSnapping-Again, IsSnapping-start, turns_left-some}
pub use Rattle.at_snapshot.proofs.Laws.Verdicts.{IsAnswer-IsVerdictOn, OnCounts-IsAnswer}
pub use Rattle.at_snapshot.specs.Collected.{HasLoaded, IsCollect, IsCollecting, collect_of}
pub use Rattle.at_snapshot.specs.Scans.{IsScanOf, ScanTerms, collects_after, starting_scan}
pub use Rattle.at_snapshot.specs.Snapping.{IsSnapping}
pub use Rattle.at_snapshot.specs.Snapshots.{IsSnapshot, OnCounts, snapshot_steps}
pub use Rattle.at_snapshot.specs.Verdicts.{IsVerdictOn, answer_of}
pub use Rattle.at_snapshot.specs.declared.collects.Collects.{Collects}
pub use Rattle.at_snapshot.specs.declared.collects.Verdict.{Verdict}
pub use Rattle.at_snapshot.specs.declared.collects.Verdict.TheVariants.{Lent, Repeated, Undecided}
pub use Rattle.at_snapshot.specs.declared.scan.Turn.{Turn}
