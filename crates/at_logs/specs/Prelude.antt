-- What this crate's contracts and definitions name of other crates, in one place.
pub use Rattle.std.specs.List.{flat_map, range_with_len}
pub use Rattle.at_base.specs.Counts.{Covers}
pub use Rattle.at_broadcast.specs.LogBook.{IsLogBook, LogTerms, account_on_logs, most_logs, single_log, total_on_logs}
pub use Rattle.at_broadcast.specs.Messages.{IsMessageOn, MessageList, message_of, no_messages, with_messages}
pub use Rattle.at_broadcast.specs.Node.{AgreesWithAll, IsNode, IsSolvent, IsSteady, NodeState, ShowsBalances, left, starting_state}
pub use Rattle.at_broadcast.specs.TwoNodes.{Follows, IsFinal, IsMadeAt, KeepsUp, SharesBalances, SharesPrefixes}
pub use Rattle.at_broadcast.specs.Validated.{IsClosed, IsValid, Reached, balance_at, came, one_more_of, went}
pub use Rattle.at_broadcast.specs.declared.log_book.LogAccount.{LogAccount}
pub use Rattle.at_broadcast.specs.declared.message.Message.{Message}
pub use Rattle.at_broadcast.specs.declared.payout.Payout.{Payout}
pub use Rattle.at_broadcast.specs.declared.message.TheConstants.{MESSAGES_MAX}
pub use Rattle.at_ledger.specs.Account.{AccountTerms, is_shared}
pub use Rattle.at_ledger.specs.Book.{BookTerms, account_of, is_owner, total_of}
pub use Rattle.at_ledger.specs.Call.{AreTargetsOn, TargetPair, amount_of}
pub use Rattle.at_ledger.specs.Limits.{most_targets}
pub use Rattle.sha2.specs.Sha256.{sha256}
