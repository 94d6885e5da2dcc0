-- What this crate's contracts and definitions name of other crates, in one place.
pub use Rattle.std.specs.List.{filter_map, list_any, range_with_len}
pub use Rattle.at_base.specs.Decision.{InRange}
pub use Rattle.at_base.specs.declared.decision.Decision.{Decision}
pub use Rattle.at_ledger.specs.Account.{is_shared, is_single, rounds_room, slots_of}
pub use Rattle.at_ledger.specs.Book.{BookTerms, account_of, is_owner, log_room_of}
pub use Rattle.at_ledger.specs.Call.{AreTargetsOn, TargetPair, amount_of}
pub use Rattle.at_ledger.specs.Run.{run}
pub use Rattle.at_ledger.specs.State.{balance_of}
pub use Rattle.at_ledger.specs.declared.call.Call.{Call}
pub use Rattle.at_ledger.specs.declared.call.Call.TheVariants.{Pay}
pub use Rattle.at_ledger.specs.declared.call.Reply.TheVariants.{Done}
pub use Rattle.at_ledger.specs.declared.draft.TheConstants.{OWNERS_MAX, OWN_ROOM_MAX, PROCESSES_MAX, ROUNDS_MAX}
