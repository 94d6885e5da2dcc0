-- What this crate's contracts and definitions name of other crates, in one place.
pub use Rattle.std.specs.List.{range_with_len}
pub use Rattle.at_base.specs.Counts.{Covers}
pub use Rattle.at_base.specs.declared.decision.Decision.{Decision}
pub use Rattle.at_board.specs.Counting.{raised, stepped}
pub use Rattle.at_board.specs.Knowledge.Candidates.{HasLoadedRows}
pub use Rattle.at_board.specs.Knowledge.Overviews.{IsOverviewOf}
pub use Rattle.at_board.specs.Knowledge.Parts.{SeesDecision, SeesRequest, asking_on, loads_of, own_part}
pub use Rattle.at_board.specs.Knowledge.Records.{RecordWordTerms, SeesForms, SeesRecord, seen_word}
pub use Rattle.at_board.specs.Knowledge.Seats.{IsKept, IsOf, SeatTerms}
pub use Rattle.at_board.specs.Steps.Announce.{Announces}
pub use Rattle.at_board.specs.Steps.Decide.{MayPropose}
pub use Rattle.at_board.specs.Steps.LoadAnnounced.{LoadsAnnounced}
pub use Rattle.at_board.specs.Steps.LoadLength.{LoadsLength}
pub use Rattle.at_board.specs.Steps.LoadRecordWord.{MayLoadWord}
pub use Rattle.at_board.specs.Steps.LoadRequestWord.{KnowsOf, LoadsRequestWord}
pub use Rattle.at_board.specs.Steps.Publish.{FitsNext, Publishes}
pub use Rattle.at_board.specs.Steps.StoreRecordWord.{StoresWord}
pub use Rattle.at_board.specs.Steps.StoreRequestWord.{StoresRequestWord}
pub use Rattle.at_board.specs.Words.Addresses.{record_width}
pub use Rattle.at_board.specs.Words.Packed.{record_words, request_words}
pub use Rattle.at_board.specs.declared.knowledge.Knowledge.{Knowledge}
pub use Rattle.at_board.specs.declared.step.BoardStep.{BoardStep}
pub use Rattle.at_board.specs.declared.step.BoardWord.{BoardWord}
pub use Rattle.at_board.specs.declared.words.TheConstants.{RECORD_WORDS, REQUEST_WORDS}
pub use Rattle.at_fold.specs.CatchingUp.{IsCatchingUp}
pub use Rattle.at_fold.specs.HasCounted.{CountsCut, HasCounted, HasRecords, StaysCounted}
pub use Rattle.at_fold.specs.Sums.{TotalSums}
pub use Rattle.at_history.specs.BoardState.{publication_at}
pub use Rattle.at_history.specs.Cuts.{place, places_max, prefix_of}
pub use Rattle.at_history.specs.Publications.{IsPrefix, count_of, publications_of}
pub use Rattle.at_history.specs.Rounds.{is_settled, rounds}
pub use Rattle.at_history.specs.declared.publication.Entry.{Entry}
pub use Rattle.at_history.specs.declared.publication.Publication.{Publication}
pub use Rattle.at_history.specs.declared.request.Request.{Request}
pub use Rattle.at_ledger.specs.Account.{slot_in, slots_of}
pub use Rattle.at_ledger.specs.Book.{BookTerms, HasSlot, account_of}
pub use Rattle.at_ledger.specs.Call.{TargetPair}
pub use Rattle.at_log.specs.Appending.{IsStoring, MayAppend}
pub use Rattle.at_log.specs.ClosingTerms.{published_by}
pub use Rattle.at_log.specs.LastRecord.{IsLast}
pub use Rattle.at_log.specs.Loading.{IsEntryOf, IsViewOf}
pub use Rattle.at_log.specs.declared.record.Record.{Record}
pub use Rattle.at_payments.specs.HelpTurns.{DecidesNext}
pub use Rattle.at_payments.specs.HelpingTerms.{HelpingTerms}
pub use Rattle.at_payments.specs.Helpings.{IsHelpingAt}
pub use Rattle.at_payments.specs.Looks.{HasLooked}
pub use Rattle.at_payments.specs.Settling.{round_steps}
pub use Rattle.at_requests.specs.Asks.{HasAsked, HasLoadedNothing, MayAskFor, asked_for, opened}
pub use Rattle.at_requests.specs.Collecting.{IsCollectingRows}
pub use Rattle.at_requests.specs.Decided.{DecidesAs}
pub use Rattle.at_requests.specs.Loading.{IsLoaded}
pub use Rattle.at_requests.specs.Loads.{LoadsRequest}
pub use Rattle.at_requests.specs.OpenRequests.{request_of}
pub use Rattle.at_requests.specs.Rows.{AreCandidates, CollectsRows, LoadsRow, row_steps}
pub use Rattle.at_requests.specs.Storing.{IsStoringRequest}
pub use Rattle.at_requests.specs.declared.open_request.OpenRequest.{OpenRequest}
pub use Rattle.at_snapshot.specs.Collected.{HasLoaded, IsCollect, IsCollecting, collect_of}
pub use Rattle.at_snapshot.specs.Scans.{ScanTerms, collects_after}
pub use Rattle.at_snapshot.specs.Snapping.{IsSnapping}
pub use Rattle.at_snapshot.specs.Snapshots.{HasCollected, IsSnapshot, snapshot_steps}
pub use Rattle.at_snapshot.specs.Verdicts.{AreAsLong, IsVerdictOn}
pub use Rattle.at_snapshot.specs.declared.collects.Collects.{Collects}
pub use Rattle.at_snapshot.specs.declared.collects.Verdict.{Verdict}
pub use Rattle.at_snapshot.specs.declared.collects.Verdict.TheVariants.{Lent, Repeated, Undecided}
