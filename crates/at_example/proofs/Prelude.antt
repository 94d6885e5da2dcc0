-- What this crate's proofs name of other crates and of its definitions, in one place.
pub use Rattle.std.proofs.lemmas.List.{get_or_append_left, get_or_at, length-append}
pub use Rattle.std.proofs.lemmas.List.Elements.{All-cons, All-nil}
pub use Rattle.std.specs.Option.{option_to_list}
pub use Rattle.at_board.specs.Knowledge.Seats.{BoardTerms}
pub use Rattle.at_ledger.specs.Book.{BookTerms}
pub use Rattle.at_ledger.specs.Call.{AreTargetsOn, TargetPair}
pub use Rattle.at_log.specs.declared.receipt.Receipt.{Receipt}
pub use Rattle.at_object.specs.Closings.{AreAccountedFor, IsAccountedFor}
pub use Rattle.at_object.proofs.Laws.Calls.{past_receipts-more}
pub use Rattle.at_object.specs.Passes.{AreNewPasses, IsNewPass, PassTerms, Stands, past_receipts}
pub use Rattle.at_object.specs.PastCalls.{PastCall}
pub use Rattle.at_base.specs.Decision.{IsNoDecision, word_of}
pub use Rattle.at_base.specs.Head.{head_word}
pub use Rattle.at_board.specs.Words.Targets.{account_in, targets_word}
