-- What this crate's contracts and definitions name of other crates, in one place.
pub use Rattle.std.specs.Global.{Global}
pub use Rattle.std.specs.List.{AllZip}
pub use Rattle.std.specs.Option.{is_some, option_map}
pub use Rattle.std.specs.Vec.{vec_capacity}
pub use Rattle.at_board.specs.Knowledge.Seats.{BoardTerms}
pub use Rattle.at_history.specs.Publications.{IsPrefix}
pub use Rattle.at_ledger.specs.Call.{IsCallOn}
pub use Rattle.at_ledger.specs.declared.call.Call.{Call}
pub use Rattle.at_log.specs.Receipts.{calls_of}
pub use Rattle.at_log.specs.declared.receipt.Receipt.{Receipt}
pub use Rattle.at_object.specs.Calls.{CallMade, StaysWithin}
pub use Rattle.at_object.specs.Passes.{IsPassOf, PassTerms, Stands, cost_of, cost_since, cost_so_far, past_call, past_receipts}
pub use Rattle.at_object.specs.PastCalls.{CostTerms}
