-- What this crate's contracts and definitions name of other crates, in one place.
pub use Rattle.std.specs.List.{range_with_len}
pub use Rattle.std.specs.List.Sorted.{IsNonDecreasingBy}
pub use Rattle.std.specs.Vec.{vec_capacity}
pub use Rattle.at_base.specs.Counts.{Covers}
pub use Rattle.at_ledger.specs.Account.{AccountTerms}
pub use Rattle.at_ledger.specs.Book.{BookTerms, account_of}
pub use Rattle.at_ledger.specs.Call.{AreTargetsOn, TargetPair, amount_of}
pub use Rattle.at_ledger.specs.Limits.{most_targets}
pub use Rattle.at_ledger.specs.State.{credited}
