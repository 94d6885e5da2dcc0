-- What this crate's contracts and definitions name of other crates, in one place.
pub use Rattle.std.specs.List.{range_with_len}
pub use Rattle.std.specs.Option.{option_to_list}
pub use Rattle.at_base.specs.Decision.{word_of}
pub use Rattle.at_base.specs.declared.decision.Decision.{Decision}
pub use Rattle.at_board.specs.Counting.{raised}
pub use Rattle.at_board.specs.Knowledge.Candidates.{ComesFirst, HasLoadedRows, IsCandidate}
pub use Rattle.at_board.specs.Knowledge.Parts.{HasLoadedRequest, SeesDecision, SeesRequest, asking_on, own_part, seen_as, with_asking}
pub use Rattle.at_board.specs.Knowledge.Seats.{IsOf}
pub use Rattle.at_board.specs.Steps.Announce.{Announces}
pub use Rattle.at_board.specs.Steps.Decide.{Decides, MayPropose}
pub use Rattle.at_board.specs.Steps.LoadRequestWord.{KnowsOf}
pub use Rattle.at_board.specs.Steps.StoreRequestWord.{MayStoreRequest}
pub use Rattle.at_board.specs.Words.Packed.{request_words}
pub use Rattle.at_board.specs.Words.Targets.{ArePacked, accounts_of}
pub use Rattle.at_board.specs.declared.knowledge.Asking.{Asking}
pub use Rattle.at_board.specs.declared.knowledge.Knowledge.{Knowledge}
pub use Rattle.at_board.specs.declared.knowledge.LoadedWord.{LoadedWord}
pub use Rattle.at_board.specs.declared.knowledge.SeenRequest.{SeenRequest}
pub use Rattle.at_board.specs.declared.words.TheConstants.{REQUEST_WORDS}
pub use Rattle.at_history.specs.BoardState.{request_at}
pub use Rattle.at_history.specs.Cuts.{places_max}
pub use Rattle.at_history.specs.Overtaking.{IsLastRequest}
pub use Rattle.at_history.specs.Publications.{IsPrefix}
pub use Rattle.at_history.specs.Rounds.{is_settled}
pub use Rattle.at_history.specs.Sound.{AreTargets}
pub use Rattle.at_history.specs.declared.request.Request.{Request}
pub use Rattle.at_history.specs.declared.request.SeenRow.{SeenRow}
pub use Rattle.at_ledger.specs.Account.{slots_of}
pub use Rattle.at_ledger.specs.Book.{BookTerms, HasSlot, account_of}
pub use Rattle.at_ledger.specs.Call.{AreTargetsOn, TargetPair, target_at}
