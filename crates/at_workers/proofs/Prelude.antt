-- What this crate's proofs name of other crates and of its definitions, in one place.
pub use Rattle.std.proofs.Crossing.{crosses}
pub use Rattle.std.proofs.Math.Seq.{map-set_same}
pub use Rattle.std.proofs.lemmas.List.{get_or-map, length-map, length-take, map-append, take_all, take_more, take_more_set}
pub use Rattle.std.proofs.lemmas.List.Sums.{sum_by-cons}
pub use Rattle.std.specs.Global.{Global}
pub use Rattle.std.specs.List.{AllZip}
pub use Rattle.std.specs.Option.{is_some, option_map}
pub use Rattle.std.specs.Vec.{vec_capacity}
pub use denote.Param.Send.{IsSend, sendable, view_send}
pub use denote.Param.SendFields.{declared_send}
pub use Rattle.at_board.specs.Knowledge.Seats.{BoardTerms}
pub use Rattle.at_history.proofs.Laws.Prefixes.{IsPrefix-refl, IsPrefix-trans}
pub use Rattle.at_history.specs.Publications.{IsPrefix}
pub use Rattle.at_ledger.specs.Book.{BookTerms}
pub use Rattle.at_ledger.specs.Call.{IsCallOn}
pub use Rattle.at_ledger.specs.declared.call.Call.{Call}
pub use Rattle.at_ledger.specs.declared.call.Call.TheVariants.{Read}
pub use Rattle.at_log.proofs.Sharing.{receipt_send}
pub use Rattle.at_log.specs.Receipts.{calls_of}
pub use Rattle.at_log.specs.declared.receipt.Receipt.{Receipt}
pub use Rattle.at_object.proofs.Laws.Calls.{begins-CallMade, call-CallMade, counted-CallMade, past_receipts-more, process-CallMade, stands-CallMade}
pub use Rattle.at_object.proofs.Sharing.{pass_send}
pub use Rattle.at_object.specs.Passes.{IsPassOf, PassTerms, Stands, cost_of, others_counted, past_receipts}
pub use Rattle.at_object.specs.PastCalls.{CostTerms}
pub use Rattle.at_workers.specs.Costs.{IsCalled, TakesCall, costs_with}
unfoldable pub use Rattle.at_workers.specs.Costs.{TakeCalls}
pub use Rattle.at_workers.specs.Jobs.{HasCosts, IsJob, IsReady, JobTerms, MakesNext, Ran}
