-- What this crate's contracts and definitions name of other crates, in one place.
pub use Rattle.std.specs.List.{range_with_len}
pub use Rattle.at_ledger.specs.Account.{is_shared, is_single}
pub use Rattle.at_ledger.specs.Book.{BookTerms, IsBook, account_of, is_owner, total_of}
pub use Rattle.at_ledger.specs.Call.{AreTargetsOn, IsCallOn, TargetPair, amount_of, first_account, payout_of}
pub use Rattle.at_ledger.specs.Files.{IsPlayable, contents_of}
pub use Rattle.at_ledger.specs.Limits.{most_calls}
pub use Rattle.at_ledger.specs.NextCalls.{AreWithinFiles, with_made}
pub use Rattle.at_ledger.specs.Run.{Legal, Whole, last_state, lines_of}
pub use Rattle.at_ledger.specs.State.{LedgerState, balance_of, credited, is_full, moved, opening_state, pay, step, with_sent}
pub use Rattle.at_ledger.specs.declared.call.Call.{Call}
pub use Rattle.at_ledger.specs.declared.call.Call.TheVariants.{Pay, Read, Transfer}
pub use Rattle.at_ledger.specs.declared.call.Line.{Line}
pub use Rattle.at_ledger.specs.declared.call.Reply.{Reply}
pub use Rattle.at_ledger.specs.declared.call.Reply.TheVariants.{Balance, Done, Full, NotOwner, Short}
