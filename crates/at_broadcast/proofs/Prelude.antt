-- What this crate's proofs name of other crates and of its definitions, in one place.
pub use Rattle.std.proofs.Math.Bool.{Bool-set}
pub use Rattle.std.proofs.Math.Bridge.{le_prop}
pub use Rattle.std.proofs.Math.ListN.{get_or-eq_default, get_or-map}
pub use Rattle.std.proofs.Math.Logic.{∥∥₁_elim, ∥∥₁_map}
pub use Rattle.std.proofs.Math.Nat.{ℕ_set}
pub use Rattle.std.proofs.Math.Seq.{map-set_same}
pub use Rattle.std.proofs.lemmas.Bool.{cases_eq, cases_lt, lt-leb}
pub use Rattle.std.proofs.lemmas.Bool.Decides.{nat_tests}
pub use Rattle.std.proofs.lemmas.Grind.{common_steps, get_or_default_zero, same_number_lists}
pub use Rattle.std.proofs.lemmas.Int.{ints}
pub use Rattle.std.proofs.lemmas.List.{at_drop_all, at_drop_more, drop-set-add, get_or-append-add, get_or-drop, get_or-replicate, get_or-take, get_or_append_left, get_or_read, length-map, length-replicate, map-set, set-append_left, set-get_or, set-set, take-append-drop, take-replicate, take-set-le, take_all, take_at}
pub use Rattle.std.proofs.lemmas.List.Elements.{All-append, All-get_or, All-head, All-tail}
pub use Rattle.std.proofs.lemmas.List.Folds.{sum_by-replicate}
pub use Rattle.std.proofs.lemmas.List.Sorted.{IsNonDecreasingBy-push, IsPartitionPoint-from_clause, IsPartitionedBy-ltb}
pub use Rattle.std.proofs.lemmas.List.Sums.{get_or-le-sum_by, sum_by-append, sum_by-cons, sum_by-drop_more, sum_by-set}
pub use Rattle.std.proofs.lemmas.Option.{same_Some}
pub use Rattle.std.proofs.lemmas.Result.{on_err_weaker, on_ok_weaker}
pub use Rattle.std.specs.List.{All, range_with_len, sum_by}
pub use Rattle.std.specs.Option.{option_copied}
pub use Rattle.std.specs.Result.{OnErr, OnOk}
pub use Rattle.std.specs.declared.alloc.AllocError.{AllocError}
pub use Rattle.std.specs.declared.result.Result.{Result}
pub use Rattle.at_base.specs.Counts.{Covers}
pub use Rattle.at_broadcast.specs.Credits.{AreCredits, CreditList, amount_since, credit_after, credits_sum}
pub use Rattle.at_broadcast.specs.LogBook.{IsLogBook, LogTerms, account_on_logs, no_account_on_logs, single_of}
pub use Rattle.at_broadcast.specs.Messages.{IsMessageOn, IsUndelivered, MessageList, amount_to, list_of, message_at, message_credit, message_debit, message_of, sum_of_first, targets_in, times_named, times_to, with_message, with_messages, with_place}
unfoldable pub use Rattle.at_broadcast.specs.Messages.{filled, no_messages}
pub use Rattle.at_broadcast.specs.Node.{AgreesWithAll, HasPrefixes, IsNode, IsSolvent, IsSteady, NodeState, ShowsBalances, left, starting_state}
pub use Rattle.at_broadcast.specs.Progress.{IsProgress, messages_of, no_sender, sender_of}
pub use Rattle.at_broadcast.specs.Sender.{AreCreditsTo, HasRoomFor, IsSender, IsStored, MakesRoom, SenderState, brought, credits_to, new_sender, no_credits, target_counted, with_one_credit}
unfoldable pub use Rattle.at_broadcast.specs.Sender.{message_counted}
pub use Rattle.at_broadcast.specs.TwoNodes.{Extends, IsFinal, KeepsUp, SharesBalances, SharesPrefixes}
pub use Rattle.at_broadcast.specs.Validated.{IsClosed, IsOnlyClosed, IsValid, Reached, came, one_more_of, went}
unfoldable pub use Rattle.at_broadcast.specs.Validated.{balance_at}
pub use Rattle.at_broadcast.specs.Validated.Reached.{raise, zeros}
pub use Rattle.at_broadcast.specs.declared.credits.Credit.{Credit}
pub use Rattle.at_broadcast.specs.declared.log_book.LogAccount.{LogAccount}
pub use Rattle.at_broadcast.specs.declared.message.Message.{Message}
pub use Rattle.at_broadcast.specs.declared.message.TheConstants.{MESSAGES_MAX}
pub use Rattle.at_ledger.proofs.Credited.{amount_of-drop_more, credited-drop_all, credited-drop_more, sum-set_more}
pub use Rattle.at_ledger.specs.Call.{AreTargetsOn, TargetPair, amount_of, target_at}
pub use Rattle.at_ledger.specs.Limits.{most_targets}
unfoldable pub use Rattle.at_ledger.specs.State.{credited}
