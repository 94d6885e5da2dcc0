-- What this crate's proofs name of other crates and of its definitions, in one place.
pub use Rattle.std.proofs.Math.Nat.{mul-add, mul-le-mul_left, mul_comm}
pub use Rattle.std.proofs.lemmas.Bool.{and_from, cases_Bool, cases_eq, cases_lt, eq-eqb, eqb-true, le-leb, le-ltb, leb-true, lt-ltb, ne_eqb, or_left, or_right}
pub use Rattle.std.proofs.lemmas.List.{append-nil, append_assoc, get_or-set_other, get_or-set_same, get_or-take, get_or_append_left, get_or_default, get_or_push, length-set, length-take, length_push}
pub use Rattle.std.proofs.lemmas.List.Elements.{All-contains, Contains-append_cases, Contains-append_left}
pub use Rattle.std.proofs.lemmas.List.Folds.{list_any-append, list_any-from_Any}
pub use Rattle.std.proofs.lemmas.List.Sums.{sum_by-cons}
pub use Rattle.std.specs.List.{All, Contains, count_by, list_any}
pub use Rattle.at_base.specs.Counts.{Covers}
pub use Rattle.at_base.specs.Decision.{word_of}
pub use Rattle.at_base.specs.declared.decision.Decision.{Decision}
pub use Rattle.at_board.specs.Counting.{raised}
pub use Rattle.at_board.specs.Knowledge.Agreement.{AgreesOnEntry, AgreesWithSeen, RequestInRange, SeesInRange}
pub use Rattle.at_board.specs.Knowledge.Candidates.{HasLoadedRow, IsCandidate}
pub use Rattle.at_board.specs.Knowledge.Fresh.{IsBorrowed}
pub use Rattle.at_board.specs.Knowledge.Parts.{HasLoadedRequest, SeesDecision, SeesRequest, asking_on, loads_of, no_asking, no_part, own_part, part_asking, seen_as, with_asking}
pub use Rattle.at_board.specs.Knowledge.Seats.{IsKept, IsOf, SeatTerms}
pub use Rattle.at_board.specs.Steps.Announce.{Announces, with_request}
pub use Rattle.at_board.specs.Steps.Decide.{Decides, MayPropose, with_decide}
pub use Rattle.at_board.specs.Steps.Publish.{Publishes, with_record}
pub use Rattle.at_board.specs.Steps.StoreRequestWord.{MayStoreRequest}
pub use Rattle.at_board.specs.declared.knowledge.Asking.{Asking}
pub use Rattle.at_board.specs.declared.knowledge.Knowledge.{Knowledge}
pub use Rattle.at_board.specs.declared.knowledge.LoadedWord.{LoadedWord}
pub use Rattle.at_board.specs.declared.knowledge.Loads.{Loads}
pub use Rattle.at_board.specs.declared.knowledge.Part.{Part}
pub use Rattle.at_board.specs.declared.knowledge.SeenRequest.{SeenRequest}
pub use Rattle.at_board.specs.declared.words.TheConstants.{RECORD_WORDS, REQUEST_WORDS}
pub use Rattle.at_fold.proofs.Laws.LoadedRecords.{sum-caught}
pub use Rattle.at_fold.proofs.Laws.MorePublished.{StaysCounted-HasCounted}
pub use Rattle.at_fold.specs.Counted.{IsDecidedIn}
pub use Rattle.at_fold.specs.HasCounted.{CountsAccount, CountsCut, CountsSlot, HasCounted, HasRecords}
pub use Rattle.at_fold.specs.Sums.{TotalSums}
pub use Rattle.at_history.proofs.Laws.Balances.{owns_of-push_round}
pub use Rattle.at_history.proofs.Laws.Counts.{count_of-push_own, count_of-take-le, get_or-counts, length-counts, position-below, publications_of-take}
pub use Rattle.at_history.proofs.Laws.Cuts.{IsCut-IsPrefix, get_or-IsCut, length-IsCut, place-IsCut-le, prefix_of-IsPrefix, sum-Covers-le}
pub use Rattle.at_history.proofs.Laws.Histories.{ArePublishedBy-IsHistory, named-le, named-unsettled}
pub use Rattle.at_history.proofs.Laws.Prefixes.{IsPrefix-count_of, IsPrefix-length, IsPrefix-refl, IsPrefix-take, IsPrefix-trans, take-IsPrefix, take-IsPrefix-le}
pub use Rattle.at_history.proofs.Laws.Rounds.{one_if, owns_of-IsPrefix, rounds-IsPrefix, rounds-take-le}
pub use Rattle.at_history.proofs.Laws.Runs.{is_single-shared}
pub use Rattle.at_history.proofs.Laws.Settled.{IsUnsettledAt, round-below, unsettled-after, unsettled-named}
pub use Rattle.at_history.specs.Balances.{IsCovered, balance_after}
pub use Rattle.at_history.specs.BoardState.{publication_at, request_at}
pub use Rattle.at_history.specs.Cuts.{IsCut, place, prefix_of}
pub use Rattle.at_history.specs.Entries.{is_own, is_round, settles}
pub use Rattle.at_history.specs.HeldCells.{held_after}
pub use Rattle.at_history.specs.Histories.{IsHistory, IsShownDecision, IsShownRound}
pub use Rattle.at_history.specs.Overtaking.{IsLastRequest}
pub use Rattle.at_history.specs.Publications.{IsPrefix, count_of, no_publication}
unfoldable pub use Rattle.at_history.specs.Publications.{publications_of}
pub use Rattle.at_history.specs.Rounds.{is_settled, named, owns_of, rounds}
pub use Rattle.at_history.specs.Sound.{AreTargets, IsSoundRound}
pub use Rattle.at_history.specs.declared.cell.Cell.{Cell}
pub use Rattle.at_history.specs.declared.publication.Entry.{Entry}
pub use Rattle.at_history.specs.declared.publication.Entry.TheVariants.{Round}
pub use Rattle.at_history.specs.declared.publication.Publication.{Publication}
pub use Rattle.at_history.specs.declared.request.Request.{Request}
pub use Rattle.at_history.specs.declared.request.SeenRow.{SeenRow}
pub use Rattle.at_ledger.specs.Account.{AccountTerms, is_shared, is_single, slot_in, slots_of}
pub use Rattle.at_ledger.specs.Book.{BookTerms, HasSlot, IsBook, account_of, is_owner}
pub use Rattle.at_ledger.specs.Call.{AreTargetsOn, TargetPair, amount_of, first_account, payout_of}
pub use Rattle.at_ledger.specs.Limits.{most_owners}
pub use Rattle.at_ledger.specs.declared.call.Call.{Call}
pub use Rattle.at_ledger.specs.declared.call.Reply.{Reply}
pub use Rattle.at_ledger.specs.declared.call.Reply.TheVariants.{Balance, Done, Short}
pub use Rattle.at_log.proofs.Laws.FirstRecords.{is_round-true}
pub use Rattle.at_log.proofs.Laws.Positions.{own_position-at, round_position-at}
pub use Rattle.at_log.proofs.Laws.Replies.{first_account-payout}
pub use Rattle.at_log.specs.Appending.{MayAppend}
pub use Rattle.at_log.specs.LastRecord.{IsLast}
pub use Rattle.at_log.specs.Placed.{IsPlaced, done, has_no_room, read, round, short}
pub use Rattle.at_log.specs.Receipts.{asks_in, is_success, owns_in}
pub use Rattle.at_log.specs.Told.{key_at, own_position, round_position}
pub use Rattle.at_log.specs.declared.receipt.At.{At}
pub use Rattle.at_log.specs.declared.receipt.At.TheVariants.{Cut, Own}
pub use Rattle.at_log.specs.declared.receipt.Receipt.{Receipt}
pub use Rattle.at_log.specs.declared.record.Record.{Record}
pub use Rattle.at_payments.specs.HelpTurns.{AnswersRound, DecidesNext, FindsSettled, HelpAnswers, HelpsDecide, IsAnswerOf, NamesOwn, OnSettled, OnSettledCalls, PublishesRound, SettlesOwn, round_record}
pub use Rattle.at_payments.specs.HelpingTerms.{HelpingTerms, helping_of}
pub use Rattle.at_payments.specs.Helpings.{HasAllSettled, HasStarted, IsHelping, IsHelpingAt, decides_made, decides_on, heard_on, loads_asked}
pub use Rattle.at_payments.specs.Looks.{HasLooked}
pub use Rattle.at_payments.specs.PaymentTurns.{HasTurned, SettlesInTurns}
pub use Rattle.at_payments.specs.PaymentTurns.HasTurned.{again, none}
pub use Rattle.at_payments.specs.Settling.{AsksOnce, OnReceipts, StandsAfter, StandsAfterSnapshot, StandsInRound, as_asked, asking_steps, round_steps}
pub use Rattle.at_payments.specs.Standing.{IsOnlyOwner, cut_behind, newly_counted, own_record, payment_reply}
pub use Rattle.at_payments.specs.Starting.{StartsBy}
pub use Rattle.at_payments.specs.Unsettled.{AreDone, IsNextUnsettled}
pub use Rattle.at_payments.specs.contracts.helping.Helping.{the_view}
pub use Rattle.at_payments.specs.declared.helping.HelpTurn.{HelpTurn}
pub use Rattle.at_payments.specs.declared.helping.HelpTurn.TheVariants.{More, Settled}
pub use Rattle.at_requests.proofs.Laws.Accounts.{HasAccount, HasAccount-IsSeat}
pub use Rattle.at_requests.proofs.Laws.Loading.{request-loaded_words}
pub use Rattle.at_requests.proofs.Laws.Proposals.{IsOldest-IsOldestOf, MayChoose}
pub use Rattle.at_requests.specs.Asks.{MayAskFor, asked_for, opened}
pub use Rattle.at_requests.specs.Decided.{DecidesAs}
pub use Rattle.at_requests.specs.Loads.{LoadsRequest, loaded_words, with_words}
pub use Rattle.at_requests.specs.Oldest.{IsBefore, IsNotDone, IsOldestOf}
pub use Rattle.at_requests.specs.OpenRequests.{IsAmong, request_of, seen_of}
pub use Rattle.at_requests.specs.Rows.{LoadsOnly, with_loads}
pub use Rattle.at_requests.specs.declared.open_request.OpenRequest.{OpenRequest}
pub use Rattle.at_snapshot.specs.Collected.{HasLoaded}
pub use Rattle.at_snapshot.specs.Scans.{SeesOwnRecords}
pub use Rattle.at_snapshot.specs.Snapshots.{IsSnapshot, snapshot_steps}
