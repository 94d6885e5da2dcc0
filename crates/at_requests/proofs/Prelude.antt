-- What this crate's proofs name of other crates and of its definitions, in one place.
pub use Rattle.std.proofs.lemmas.Bool.{cases_eq, cases_lt, eq-eqb, ne_eqb}
pub use Rattle.std.proofs.lemmas.Grind.{replicate_next, same_number_lists}
pub use Rattle.std.proofs.lemmas.List.{append-nil, append_assoc, get_or-replicate, get_or-set_other, get_or-set_same, get_or_append_left, get_or_default, get_or_push, length-map, length-replicate, length-set, length_push, map-append, set-get_or, set-set}
pub use Rattle.std.proofs.lemmas.List.Elements.{All-contains, All-map, All-weaker, Contains-append_cases, Contains-append_left, Contains-append_right, Contains-get_or, Contains-push, Contains-push_cases}
pub use Rattle.std.proofs.lemmas.List.FromFn.{get_or-map-range_with_len, get_or-range_with_len, length-map-range_with_len, length-range_with_len, map-range_with_len_more}
pub use Rattle.std.specs.List.{Contains, range_with_len}
pub use Rattle.std.specs.Option.{option_to_list}
pub use Rattle.at_base.specs.Decision.{word_of}
pub use Rattle.at_base.specs.declared.decision.Decision.{Decision}
pub use Rattle.at_board.specs.Counting.{raised}
pub use Rattle.at_board.specs.Knowledge.Agreement.{DecisionInRange, RequestInRange, SeesInRange}
pub use Rattle.at_board.specs.Knowledge.Candidates.{ComesFirst, HasLoadedRows, IsCandidate, IsOldest}
pub use Rattle.at_board.specs.Knowledge.Parts.{HasLoadedRequest, SeesDecision, SeesRequest, asking_on, no_asking, no_part, own_part, part_asking, seen_as, with_asking, with_part}
pub use Rattle.at_board.specs.Knowledge.Seats.{BoardTerms, IsOf, IsSeat, SeatTerms}
pub use Rattle.at_board.specs.Steps.Announce.{Announces, MayAnnounce, with_request}
pub use Rattle.at_board.specs.Steps.Decide.{Decides}
pub use Rattle.at_board.specs.Steps.LoadAnnounced.{LoadsAnnounced, all_of, with_row}
pub use Rattle.at_board.specs.Steps.LoadRequestWord.{KnowsOf, LoadsRequestWord, with_loaded}
pub use Rattle.at_board.specs.Steps.StoreRequestWord.{MayStoreRequest, StoresRequestWord, with_request_word}
pub use Rattle.at_board.specs.Words.Packed.{request_words}
pub use Rattle.at_board.specs.Words.Targets.{ArePacked, accounts_of}
pub use Rattle.at_board.specs.declared.knowledge.Asking.{Asking}
pub use Rattle.at_board.specs.declared.knowledge.Knowledge.{Knowledge}
pub use Rattle.at_board.specs.declared.knowledge.LoadedWord.{LoadedWord}
pub use Rattle.at_board.specs.declared.knowledge.Loads.{Loads}
pub use Rattle.at_board.specs.declared.knowledge.Part.{Part}
pub use Rattle.at_board.specs.declared.knowledge.SeenDecision.{SeenDecision}
pub use Rattle.at_board.specs.declared.knowledge.SeenRequest.{SeenRequest}
pub use Rattle.at_board.specs.declared.words.TheConstants.{REQUEST_WORDS}
pub use Rattle.at_history.proofs.Laws.Prefixes.{IsPrefix-length, IsPrefix-refl, IsPrefix-trans}
pub use Rattle.at_history.specs.BoardState.{request_at}
pub use Rattle.at_history.specs.Overtaking.{IsLastRequest}
pub use Rattle.at_history.specs.Rounds.{is_settled, rounds}
pub use Rattle.at_history.specs.Sound.{AreTargets}
pub use Rattle.at_history.specs.declared.publication.Publication.{Publication}
pub use Rattle.at_history.specs.declared.request.Request.{Request}
pub use Rattle.at_history.specs.declared.request.SeenRow.{SeenRow}
pub use Rattle.at_ledger.specs.Account.{slots_of}
pub use Rattle.at_ledger.specs.Book.{BookTerms, HasSlot, IsBook, account_of}
pub use Rattle.at_ledger.specs.Call.{AreTargetsOn, TargetPair}
pub use Rattle.at_requests.specs.Asks.{HasAsked, HasLoadedNothing, MayAskFor, asked_for, opened}
pub use Rattle.at_requests.specs.Collecting.{AreWords, HasRow, IsCollectingRows, IsOwnOrLast}
pub use Rattle.at_requests.specs.Decided.{DecidesAs}
pub use Rattle.at_requests.specs.Loading.{IsLoaded, IsLoading, with_first_words}
pub use Rattle.at_requests.specs.Loads.{LoadsRequest, first_words, loaded_words, with_words}
pub use Rattle.at_requests.specs.Oldest.{IsBefore, IsFirstBelow, IsNotDone, IsOldestOf}
pub use Rattle.at_requests.specs.OpenRequests.{AreBelow, AreRising, IsAmong, request_in, request_of, seen_of}
pub use Rattle.at_requests.specs.Rows.{AreCandidates, CollectsRows, IsFound, LoadsOnly, LoadsRow, SeesAsked, WordCounts, row_steps, with_loads}
pub use Rattle.at_requests.specs.Storing.{IsStoringRequest, with_request_stored}
pub use Rattle.at_requests.specs.declared.open_request.OpenRequest.{OpenRequest}
