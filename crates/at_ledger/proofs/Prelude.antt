-- What this crate's proofs name of other crates and of its definitions, in one place.
pub use Rattle.std.proofs.Math.Seq.{drop-cons}
pub use Rattle.std.proofs.lemmas.Bool.{cases_Bool, leb-false, lt-ltb, ltb-false}
pub use Rattle.std.proofs.lemmas.Bool.Decides.{Decides-eqb, nat_tests}
pub use Rattle.std.proofs.lemmas.Grind.{common_steps}
pub use Rattle.std.proofs.lemmas.Iterator.{YieldsList-from_slice}
pub use Rattle.std.proofs.lemmas.Iterator.Search.{position_from_yields_List}
pub use Rattle.std.proofs.lemmas.List.{at_drop_all, at_drop_more, drop_all, get_or-map, get_or-replicate, get_or-set_other, get_or-set_same, get_or-take, length-drop, length-map, length-replicate, length-set, map-append, map_more, take_more, take_more_set}
pub use Rattle.std.proofs.lemmas.List.Elements.{All-cons, All-get_or, All-nil, All-push}
pub use Rattle.std.proofs.lemmas.List.Folds.{sum_by-replicate}
pub use Rattle.std.proofs.lemmas.List.Sums.{get_or-le-sum_by, position_or_len_is, sum_by-cons, sum_by-drop_more, sum_by-set, sum_by_more, sum_by_more_le_part, sum_by_push}
pub use Rattle.std.proofs.lemmas.Option.{get_or_from_slice_get, slice_get-get_or, slice_get_within}
pub use Rattle.std.proofs.lemmas.Result.{err_from_is_err_and}
pub use Rattle.std.proofs.lemmas.Slice.Zip.{get_or-zip, length-zip}
pub use Rattle.std.specs.Global.{Global}
pub use Rattle.std.specs.List.{All, range_with_len, sum_by, zip}
pub use Rattle.std.specs.Option.{option_or}
pub use Rattle.at_ledger.specs.Account.{AccountTerms, is_owner_in, rounds_room, rounds_room_of, slot_in}
unfoldable pub use Rattle.at_ledger.specs.Account.{IsRisingFrom}
pub use Rattle.at_ledger.specs.Book.{BookTerms, IsAccount, IsBegun, IsBook, IsSummed, account_of, rounds_of, total_of, with_openings}
pub use Rattle.at_ledger.specs.Call.{IsCallOn, TargetPair, amount_of, target_at}
pub use Rattle.at_ledger.specs.Draft.{account_fault, book_fault, book_without_accounts, limits_fault, owner_fault, sums_fault, terms_of, terms_with, with_account}
unfoldable pub use Rattle.at_ledger.specs.Draft.{accounts_fault, owners_fault}
pub use Rattle.at_ledger.specs.Files.{IsPlayable, contents_of}
pub use Rattle.at_ledger.specs.Limits.{most_accounts, most_owners, most_rounds}
pub use Rattle.at_ledger.specs.NextCalls.{AreWithinFiles, IsNextOfProcess, with_made}
pub use Rattle.at_ledger.specs.Run.{Legal, Run, Whole, asked_in, lines_of, run_after}
unfoldable pub use Rattle.at_ledger.specs.Run.{run_from}
pub use Rattle.at_ledger.specs.State.{LedgerState, Step, opening_state, pay, step}
unfoldable pub use Rattle.at_ledger.specs.State.{credited}
pub use Rattle.at_ledger.specs.declared.call.Call.{Call}
pub use Rattle.at_ledger.specs.declared.call.Call.TheVariants.{Pay, Read, Transfer}
pub use Rattle.at_ledger.specs.declared.call.Line.{Line}
pub use Rattle.at_ledger.specs.declared.draft.BookError.{BookError}
pub use Rattle.at_ledger.specs.declared.draft.BookError.TheVariants.{NoAccount, OwnerOutOfRange, OwnersNotRising, RoundsOverLimit, TooManyOwners, TotalOverLimit}
pub use Rattle.at_ledger.specs.declared.draft.BookFault.TheVariants.{Bad}
pub use Rattle.at_ledger.specs.declared.draft.Draft.{Draft}
pub use Rattle.at_ledger.specs.declared.draft.DraftAccount.{DraftAccount}
