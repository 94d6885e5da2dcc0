-- What this crate's contracts and definitions name of other crates, in one place.
pub use Rattle.at_board.specs.Counting.{raised}
pub use Rattle.at_board.specs.Knowledge.Overviews.{IsOverviewOf}
pub use Rattle.at_board.specs.Knowledge.Parts.{asking_on, own_part}
pub use Rattle.at_board.specs.Knowledge.Seats.{IsKept, IsOf, SeatTerms}
pub use Rattle.at_board.specs.Steps.Announce.{Announces}
pub use Rattle.at_board.specs.Steps.Publish.{Publishes}
pub use Rattle.at_board.specs.Steps.StoreRequestWord.{MayStoreRequest}
pub use Rattle.at_board.specs.Words.Addresses.{record_width}
pub use Rattle.at_board.specs.declared.knowledge.Knowledge.{Knowledge}
pub use Rattle.at_board.specs.declared.step.BoardStep.{BoardStep}
pub use Rattle.at_board.specs.declared.words.TheConstants.{RECORD_WORDS, REQUEST_WORDS}
pub use Rattle.at_fold.specs.HasCounted.{HasCounted, StaysCounted}
pub use Rattle.at_fold.specs.Sums.{TotalSums}
pub use Rattle.at_history.specs.Balances.{balance_after}
pub use Rattle.at_history.specs.Cuts.{place, places_max, prefix_of}
pub use Rattle.at_history.specs.Moves.{AreRuns}
pub use Rattle.at_history.specs.Publications.{IsPrefix}
pub use Rattle.at_history.specs.Rounds.{owns_of, rounds}
pub use Rattle.at_history.specs.Sound.{AreTargets}
pub use Rattle.at_history.specs.declared.publication.Entry.{Entry}
pub use Rattle.at_history.specs.declared.publication.Publication.{Publication}
pub use Rattle.at_ledger.specs.Account.{is_shared, is_single, slots_of}
pub use Rattle.at_ledger.specs.Book.{BookTerms, HasSlot, account_of}
pub use Rattle.at_ledger.specs.Call.{AreTargetsOn, IsCallOn, TargetPair, amount_of, first_account, payout_of}
pub use Rattle.at_ledger.specs.declared.call.Call.{Call}
pub use Rattle.at_ledger.specs.declared.call.Call.TheVariants.{Read, Transfer}
pub use Rattle.at_ledger.specs.declared.call.Reply.{Reply}
pub use Rattle.at_ledger.specs.declared.call.Reply.TheVariants.{Balance, Done, Full, NotOwner}
pub use Rattle.at_log.specs.Placed.{IsPlaced}
pub use Rattle.at_log.specs.Receipts.{asks_in}
pub use Rattle.at_log.specs.declared.receipt.At.{At}
pub use Rattle.at_log.specs.declared.receipt.Receipt.{Receipt}
pub use Rattle.at_machines.specs.Appending.{AppendingTerms, StoresNextWord, append_step, publication_of, published_after}
pub use Rattle.at_machines.specs.Asking.{AnnouncesAsked, AskingTerms, StoresNextRequestWord, ask_step, starting_to_ask}
pub use Rattle.at_machines.specs.CollectingRows.{CollectingRowsTerms, MakesNextLoad, rows_after}
pub use Rattle.at_machines.specs.Deciding.{DecidingTerms, MakesRoundStep, exchanges_in, left_of_round, publishes_in, step_in_round}
pub use Rattle.at_machines.specs.Deciding.NextOfRound.{exchange}
pub use Rattle.at_machines.specs.LoadingRow.{NextRowLoad, row_step}
pub use Rattle.at_machines.specs.LoadingRow.NextRowLoad.{announced_word, nothing, request_word}
pub use Rattle.at_machines.specs.Looking.{EndsLook, FollowsLook, IsWithin, IsWithinOneMore, LookingTerms, MakesLookLoad, first_load, length_at, look_turns_left, step_at}
pub use Rattle.at_object.specs.BoundNumbers.{three_processes}
pub use Rattle.at_object.specs.CallCounts.{with_one_call}
pub use Rattle.at_object.specs.Calls.{CallMade, StaysWithin, call_steps, may_exchange}
pub use Rattle.at_object.specs.Paid.{PaysAlone, PaysInRound}
pub use Rattle.at_object.specs.Parted.{IsOfOnePass, pass_of}
pub use Rattle.at_object.specs.Passes.{PassTerms, Stands}
pub use Rattle.at_object.specs.Payments.{IsRefused, refusal_in, refusal_of, shared_steps, single_steps}
pub use Rattle.at_object.specs.declared.parts.Rest.{Rest}
pub use Rattle.at_payments.specs.HelpTurns.{HelpAnswers, OnSettled, OnSettledCalls}
pub use Rattle.at_payments.specs.HelpingTerms.{HelpingTerms}
pub use Rattle.at_payments.specs.Helpings.{HasAllSettled, HasStarted, IsHelping, decides_made, decides_on, heard_on}
pub use Rattle.at_payments.specs.Looks.{HasLooked}
pub use Rattle.at_payments.specs.PaymentTurns.{HasTurned, SettlesInTurns}
pub use Rattle.at_payments.specs.Settling.{OnReceipts, StandsAfter, StandsInRound, asking_steps, round_steps}
pub use Rattle.at_payments.specs.Standing.{IsOnlyOwner, StandsAfterCut, StandsAtCut, cut_behind, newly_counted}
pub use Rattle.at_payments.specs.declared.helping.HelpTurn.{HelpTurn}
pub use Rattle.at_payments.specs.declared.helping.HelpTurn.TheVariants.{More}
pub use Rattle.at_requests.specs.Asks.{HasLoadedNothing, MayAskFor, asked_for}
pub use Rattle.at_requests.specs.OpenRequests.{request_of}
pub use Rattle.at_snapshot.specs.Collected.{HasLoaded}
pub use Rattle.at_snapshot.specs.Scans.{SeesOwnRecords}
pub use Rattle.at_snapshot.specs.Snapshots.{IsSnapshot, snapshot_steps}
