-- What this crate's contracts and definitions name of other crates, in one place.
pub use Rattle.std.specs.Global.{Global}
pub use Rattle.std.specs.Io.{StartsWith}
pub use Rattle.std.specs.List.{join_with_byte, range_with_len}
pub use denote.Param.Send.{IsSync}
pub use Rattle.at_broadcast.specs.Node.{NodeState}
pub use Rattle.at_files.specs.Names.{AreNamesOf, NameList, account_name, plain_names, process_name}
pub use Rattle.at_files.specs.Payments.{HasAmounts}
pub use Rattle.at_files.specs.declared.book_fault.BookWhy.{BookWhy}
pub use Rattle.at_files.specs.declared.deliveries.OrderWhy.{OrderWhy}
pub use Rattle.at_files.specs.declared.messages.MessagesWhy.{MessagesWhy}
pub use Rattle.at_files.specs.declared.payments_fault.PaymentsWhy.{PaymentsWhy}
pub use Rattle.at_files.specs.declared.schedule.ScheduleWhy.{ScheduleWhy}
pub use Rattle.at_ledger.specs.Book.{BookTerms}
pub use Rattle.at_ledger.specs.Call.{AreTargetsOn, IsCallOn, IsLineOn, TargetPair, target_at}
pub use Rattle.at_ledger.specs.Limits.{most_processes}
pub use Rattle.at_ledger.specs.Run.{last_state}
pub use Rattle.at_ledger.specs.State.{LedgerState, balance_of}
pub use Rattle.at_ledger.specs.declared.call.Call.{Call}
pub use Rattle.at_ledger.specs.declared.call.Call.TheVariants.{Pay, Read, Transfer}
pub use Rattle.at_ledger.specs.declared.call.Line.{Line}
pub use Rattle.at_ledger.specs.declared.call.Reply.{Reply}
pub use Rattle.at_ledger.specs.declared.call.Reply.TheVariants.{Balance, Done, Full, NotOwner, Short}
pub use Rattle.at_ledger.specs.declared.draft.BookError.{BookError}
pub use Rattle.at_ledger.specs.declared.draft.BookError.TheVariants.{NoAccount, NoProcess, OwnerOutOfRange, OwnersNotRising, RoomOutOfRange, RoundsOverLimit, TooManyAccounts, TooManyOwners, TooManyProcesses, TotalOverLimit}
