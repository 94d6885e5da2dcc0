-- What this crate's contracts and definitions name of other crates, in one place.
pub use Rattle.std.specs.List.{cons_option, filter_map, flat_map, range_with_len}
pub use Rattle.std.specs.List.Sorted.{IsPermutation}
pub use Rattle.std.specs.Option.{option_copied}
pub use Rattle.at_base.specs.Counts.{Covers}
pub use Rattle.at_history.specs.Balances.{balance_after}
pub use Rattle.at_history.specs.BoardState.{publication_at}
pub use Rattle.at_history.specs.Cuts.{place}
pub use Rattle.at_history.specs.Publications.{count_of}
pub use Rattle.at_history.specs.Rounds.{rounds}
pub use Rattle.at_history.specs.declared.publication.Entry.{Entry}
pub use Rattle.at_history.specs.declared.publication.Entry.TheVariants.{Own, Round}
pub use Rattle.at_history.specs.declared.publication.Publication.{Publication}
pub use Rattle.at_ledger.specs.Book.{BookTerms, IsBook}
pub use Rattle.at_ledger.specs.Call.{first_account}
pub use Rattle.at_ledger.specs.Run.{Legal, Whole, last_state}
pub use Rattle.at_ledger.specs.State.{balance_of}
pub use Rattle.at_ledger.specs.declared.call.Call.{Call}
pub use Rattle.at_ledger.specs.declared.call.Line.{Line}
pub use Rattle.at_log.specs.ClosingTerms.{ClosingTerms, log_lengths, log_of, log_published, receipts_of}
pub use Rattle.at_log.specs.Coherent.{Coherent}
pub use Rattle.at_log.specs.HeldCuts.{cut_at, held_cuts}
pub use Rattle.at_log.specs.InTime.{IsNotBehind}
pub use Rattle.at_log.specs.JournalOrder.{journal_lines, journal_order, line_of}
pub use Rattle.at_log.specs.Receipts.{calls_of, is_success, receipt_at}
pub use Rattle.at_log.specs.Told.{key_of, keys_of, own_position, round_position}
pub use Rattle.at_log.specs.declared.receipt.At.{At}
pub use Rattle.at_log.specs.declared.receipt.Receipt.{Receipt}
