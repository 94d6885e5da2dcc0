-- What this crate's contracts and definitions name of other crates, in one place.
pub use Rattle.at_base.specs.declared.decision.Decision.{Decision}
pub use Rattle.at_board.specs.Counting.{raised}
pub use Rattle.at_board.specs.Knowledge.Candidates.{HasLoadedRows, IsCandidate}
pub use Rattle.at_board.specs.Knowledge.Parts.{SeesDecision, SeesRequest, asking_on, loads_of, own_part, with_part}
pub use Rattle.at_board.specs.Knowledge.Seats.{IsOf}
pub use Rattle.at_board.specs.Steps.Announce.{Announces}
pub use Rattle.at_board.specs.Steps.Decide.{MayPropose}
pub use Rattle.at_board.specs.Steps.Publish.{Publishes}
pub use Rattle.at_board.specs.Steps.StoreRequestWord.{MayStoreRequest}
pub use Rattle.at_board.specs.declared.knowledge.Knowledge.{Knowledge}
pub use Rattle.at_board.specs.declared.knowledge.LoadedWord.{LoadedWord}
pub use Rattle.at_board.specs.declared.knowledge.Loads.{Loads}
pub use Rattle.at_board.specs.declared.knowledge.SeenRequest.{SeenRequest}
pub use Rattle.at_board.specs.declared.words.TheConstants.{RECORD_WORDS, REQUEST_WORDS}
pub use Rattle.at_fold.specs.Counted.{IsSettledSo}
pub use Rattle.at_fold.specs.HasCounted.{CountsAccount, CountsCut, CountsSlot, HasCounted, StaysCounted}
pub use Rattle.at_fold.specs.Sums.{TotalSums}
pub use Rattle.at_history.specs.Balances.{balance_after}
pub use Rattle.at_history.specs.BoardState.{publication_at}
pub use Rattle.at_history.specs.Cuts.{IsCut, place, prefix_of}
pub use Rattle.at_history.specs.Publications.{IsPrefix, publications_of}
pub use Rattle.at_history.specs.Rounds.{is_settled, named, owns_of, rounds}
pub use Rattle.at_history.specs.Sound.{IsSoundRound}
pub use Rattle.at_history.specs.declared.publication.Entry.{Entry}
pub use Rattle.at_history.specs.declared.publication.Publication.{Publication}
pub use Rattle.at_history.specs.declared.request.Request.{Request}
pub use Rattle.at_history.specs.declared.request.SeenRow.{SeenRow}
pub use Rattle.at_ledger.specs.Account.{is_single, slots_of}
pub use Rattle.at_ledger.specs.Book.{BookTerms, HasSlot, account_of, is_owner}
pub use Rattle.at_ledger.specs.Call.{AreTargetsOn, TargetPair, amount_of, payout_of}
pub use Rattle.at_ledger.specs.Limits.{most_owners}
pub use Rattle.at_ledger.specs.declared.call.Call.{Call}
pub use Rattle.at_ledger.specs.declared.call.Reply.{Reply}
pub use Rattle.at_ledger.specs.declared.call.Reply.TheVariants.{Done, Short}
pub use Rattle.at_log.specs.Placed.{IsPlaced}
pub use Rattle.at_log.specs.Receipts.{asks_in, owns_in}
pub use Rattle.at_log.specs.Told.{key_of}
pub use Rattle.at_log.specs.declared.receipt.At.{At}
pub use Rattle.at_log.specs.declared.receipt.At.TheVariants.{Cut, Own, Previous, Round}
pub use Rattle.at_log.specs.declared.receipt.Receipt.{Receipt}
pub use Rattle.at_requests.specs.Asks.{HasAsked, HasLoadedNothing}
pub use Rattle.at_requests.specs.Decided.{DecidesAs}
pub use Rattle.at_requests.specs.Loads.{LoadsRequest}
pub use Rattle.at_requests.specs.Oldest.{IsOldestOf}
pub use Rattle.at_requests.specs.OpenRequests.{IsAmong, request_of, seen_of}
pub use Rattle.at_requests.specs.Rows.{AreCandidates, CollectsRows, LoadsOnly}
pub use Rattle.at_requests.specs.declared.open_request.OpenRequest.{OpenRequest}
pub use Rattle.at_snapshot.specs.Collected.{HasLoaded}
pub use Rattle.at_snapshot.specs.Snapshots.{IsSnapshot, snapshot_steps}
