-- What this crate's contracts and definitions name of other crates, in one place.
pub use Rattle.std.specs.Borrow.{Bor}
pub use Rattle.std.specs.Char.{is_ascii_digit, is_ascii_lowercase}
pub use Rattle.std.specs.List.{IsDistinct, join_with_byte, list_all, list_any, range_with_len, slice_split}
pub use Rattle.at_base.specs.Numbers.{number_of}
pub use Rattle.at_broadcast.specs.Messages.{IsMessageOn}
pub use Rattle.at_broadcast.specs.declared.message.Message.{Message}
pub use Rattle.at_ledger.specs.Account.{AccountTerms}
pub use Rattle.at_ledger.specs.Book.{BookTerms, IsBook}
pub use Rattle.at_ledger.specs.Call.{IsCallOn, TargetPair, target_at}
pub use Rattle.at_ledger.specs.Draft.{account_fault, book_without_accounts, limits_fault, terms_with, with_account}
pub use Rattle.at_ledger.specs.Files.{contents_of}
pub use Rattle.at_ledger.specs.Limits.{most_accounts, most_calls, most_owners, most_processes, most_targets}
pub use Rattle.at_ledger.specs.declared.call.Call.{Call}
pub use Rattle.at_ledger.specs.declared.call.Call.TheVariants.{Pay, Read, Transfer}
pub use Rattle.at_ledger.specs.declared.draft.BookError.{BookError}
pub use Rattle.at_ledger.specs.declared.draft.BookError.TheVariants.{NoAccount, NoProcess, OwnersNotRising, TooManyAccounts, TooManyOwners, TooManyProcesses}
pub use Rattle.csv.specs.Machine.{ends_at_end}
pub use Rattle.csv.specs.Reading.{Ready, default_config, reader_config, reader_state, reader_trim, records, records_from, source_of, strip_bom}
pub use Rattle.csv.specs.Records.{field_at, fields_of}
pub use Rattle.csv.specs.declared.parser.State.{State}
pub use Rattle.csv.specs.declared.reader.Reader.{Reader}
