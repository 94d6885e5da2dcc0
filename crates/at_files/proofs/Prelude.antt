-- What this crate's proofs name of other crates and of its definitions, in one place.
pub use Rattle.std.proofs.Math.Seq.{get_or-append_seam}
pub use Rattle.std.proofs.lemmas.Bool.{eq-eqb, eqb-true, le-leb, leb-true, lt-ltb, ltb-true, not-false, not-true}
pub use Rattle.std.proofs.lemmas.Bool.Decides.{Decides-eqb, nat_tests}
pub use Rattle.std.proofs.lemmas.Cmp.{nat_list_eq_equiv}
pub use Rattle.std.proofs.lemmas.Fmt.{decimal_digit, decimal_nonempty, digits_decimal, length-decimal-le}
pub use Rattle.std.proofs.lemmas.Grind.{common_steps}
pub use Rattle.std.proofs.lemmas.Iterator.Consumers.{YieldsList-at, YieldsList-end, YieldsList-turn}
pub use Rattle.std.proofs.lemmas.Iterator.Splits.{YieldsList-from_slice_split}
pub use Rattle.std.proofs.lemmas.List.{at_drop_all, at_drop_more, drop-append-le, drop_all, drop_more, ext_get_or, get_or-map, get_or_append_left, length-drop, length-map, length-take-le, length_push, map-append, take_more}
pub use Rattle.std.proofs.lemmas.List.Edits.{between_none}
pub use Rattle.std.proofs.lemmas.List.Elements.{All-cons, All-drop, All-get_or, All-head, All-push, All-tail}
pub use Rattle.std.proofs.lemmas.List.Folds.{list_any_none}
pub use Rattle.std.proofs.lemmas.List.FromFn.{get_or-map-range_with_len, length-map-range_with_len, map-range_with_len_more}
pub use Rattle.std.proofs.lemmas.List.Quantifiers.{position-Some}
pub use Rattle.std.proofs.lemmas.List.Splits.{join_with_byte-slice_split, slice_split_at, slice_split_none}
pub use Rattle.std.proofs.lemmas.List.Sums.{AllPass-from_list_all, position_or_len_is, prefix_len_passes, sum_by-cons, sum_by_push}
pub use Rattle.std.proofs.lemmas.Map.Keys.{IsDistinct-push, apart_from_distinct}
pub use Rattle.std.proofs.lemmas.Option.{slice_get-get_or}
pub use Rattle.std.proofs.lemmas.Slice.{between_is, between_to_end}
pub use Rattle.std.proofs.lemmas.Slice.Eq.{bytes_eq-Decides, strip_prefix_is}
pub use Rattle.std.specs.Borrow.{Bor}
pub use Rattle.std.specs.Char.{is_ascii_digit, is_ascii_lowercase}
pub use Rattle.std.specs.Global.{Global}
pub use Rattle.std.specs.List.{between, join_with_byte, list_all, list_any, position_or_len, slice_index, slice_split}
unfoldable pub use Rattle.std.specs.List.{IsDistinct}
pub use Rattle.at_base.proofs.NumberLaws.{number_of-decimal, number_of-some, own}
pub use Rattle.at_base.specs.Numbers.{number_of}
pub use Rattle.at_broadcast.specs.declared.message.Message.{Message}
pub use Rattle.at_files.specs.BookFile.{Spells, at_line, book_at_end, book_of_records, fields_of_account, fields_of_processes, limits_from, owners_text, processes_from, records_of_book}
unfoldable pub use Rattle.at_files.specs.BookFile.{account_records, accounts_from}
pub use Rattle.at_files.specs.BookRecords.{NamedBook, book_begun, book_with_rooms, counted_processes, limits_of, named_processes, named_terms, numbered_terms, owner_known, pieces_of, process_count, processes_of, version_of, with_account_record, with_name, with_named, with_named_record, with_plain_record, with_process, with_terms, within_limits}
unfoldable pub use Rattle.at_files.specs.BookRecords.{numbers_of, owners_named, with_processes}
pub use Rattle.at_files.specs.Deliveries.{Delivers, IsDelivery, deliveries_of, delivery_of, delivery_read, fields_of_delivery}
pub use Rattle.at_files.specs.Limits.{most_deliveries, most_messages, most_name_bytes, most_replay_calls, most_scheduled_turns}
pub use Rattle.at_files.specs.Locations.{begins_line, ends_line, is_line_end}
unfoldable pub use Rattle.at_files.specs.Locations.{line_from}
pub use Rattle.at_files.specs.Messages.{IsSent, Sends, are_counts, fields_of_message, message_read, message_spelled, messages_spelled}
pub use Rattle.at_files.specs.NameSet.{IsNameSet}
pub use Rattle.at_files.specs.Names.{AreFormed, AreNames, AreNamesOf, NameList, account_name, decimals_below, has_name, is_name, is_name_byte, plain_names, position_of, process_name}
pub use Rattle.at_files.specs.Payments.{HasAmounts, IsCallOfVersion, Pays, call_of, calls_behind, calls_or_fault, fields_of_call, fields_of_process, before_calls, names_process, is_of, is_pay, named_call_of, named_pay, named_read, named_transfer, payments_of, plain_call_of, read_of, target_of, transfer_of}
unfoldable pub use Rattle.at_files.specs.Payments.{fields_of_targets, has_amounts, targets_spelled}
pub use Rattle.at_files.specs.Reading.{IsBetweenRecords, IsPlain, IsPlainByte, line_records, records_left, records_read_from, texts_of}
pub use Rattle.at_files.specs.Records.{Fields, before, field_of, has_shape, number_at}
pub use Rattle.at_files.specs.ReplayPayments.{PaysReplay, replay_payments_of}
pub use Rattle.at_files.specs.Results.{and_then}
pub use Rattle.at_files.specs.Schedule.{Schedules, fields_of_turn, schedule_of, turn_of, turn_read}
pub use Rattle.at_files.specs.Spelled.{bad_record, item_before, items_before, items_of, next_and_rest, with_item}
unfoldable pub use Rattle.at_files.specs.Spelled.{items_from}
pub use Rattle.at_files.specs.declared.book_fault.BadBook.{BadBook}
pub use Rattle.at_files.specs.declared.book_fault.BookWhy.{BookWhy}
pub use Rattle.at_files.specs.declared.book_fault.BookWhy.TheVariants.{Book}
pub use Rattle.at_files.specs.declared.book_fault.ReadBookFault.{ReadBookFault}
pub use Rattle.at_files.specs.declared.deliveries.Delivery.{Delivery}
pub use Rattle.at_files.specs.declared.deliveries.OrderWhy.{OrderWhy}
pub use Rattle.at_files.specs.declared.deliveries.OrderWhy.TheVariants.{Shape, TooManyDeliveries}
pub use Rattle.at_files.specs.declared.messages.MessagesWhy.{MessagesWhy}
pub use Rattle.at_files.specs.declared.messages.MessagesWhy.TheVariants.{TooManyMessages}
pub use Rattle.at_files.specs.declared.payments_fault.BadPayments.{BadPayments}
pub use Rattle.at_files.specs.declared.payments_fault.PaymentsWhy.{PaymentsWhy}
pub use Rattle.at_files.specs.declared.payments_fault.PaymentsWhy.TheVariants.{TooManyCalls, UnknownAccount}
pub use Rattle.at_files.specs.declared.payments_fault.ReadPaymentsFault.{ReadPaymentsFault}
pub use Rattle.at_files.specs.declared.schedule.ScheduleWhy.{ScheduleWhy}
pub use Rattle.at_files.specs.declared.schedule.ScheduleWhy.TheVariants.{TooManyTurns, UnknownProcess}
pub use Rattle.at_files.specs.declared.spelled.BadRecord.{BadRecord}
pub use Rattle.at_files.specs.declared.spelled.ReadFault.{ReadFault}
pub use Rattle.at_files.specs.declared.spelled.ReadFault.TheVariants.{Bad, NoMemory}
pub use Rattle.at_ledger.proofs.Faults.{choice-none, option_or-none}
pub use Rattle.at_ledger.proofs.FileLists.{file_few, sum_by-contents_of_more}
pub use Rattle.at_ledger.proofs.Owners.{IsAccount-from_none}
pub use Rattle.at_ledger.specs.Account.{AccountTerms, rounds_room}
unfoldable pub use Rattle.at_ledger.specs.Account.{IsRisingFrom}
pub use Rattle.at_ledger.specs.Book.{BookTerms, IsAccount, IsBook, rounds_of, total_of}
pub use Rattle.at_ledger.specs.Call.{AreTargetsOn, IsCallOn, TargetPair}
pub use Rattle.at_ledger.specs.Draft.{account_fault, book_without_accounts, limits_fault, owner_fault, sums_fault, terms_with, with_account}
unfoldable pub use Rattle.at_ledger.specs.Draft.{accounts_fault, owners_fault}
pub use Rattle.at_ledger.specs.Files.{contents_of}
pub use Rattle.at_ledger.specs.Limits.{most_accounts, most_calls, most_own_room, most_owners, most_processes, most_request_room, most_rounds, most_targets}
pub use Rattle.at_ledger.specs.declared.call.Call.{Call}
pub use Rattle.at_ledger.specs.declared.call.Call.TheVariants.{Pay, Transfer}
pub use Rattle.at_ledger.specs.declared.draft.BookError.{BookError}
pub use Rattle.at_ledger.specs.declared.draft.BookError.TheVariants.{NoAccount, NoProcess, OwnerOutOfRange, OwnersNotRising, RoundsOverLimit, TooManyAccounts, TooManyOwners, TooManyProcesses, TotalOverLimit}
pub use Rattle.csv.specs.Machine.{Read, ends_at_end, field_after, fields_after, is_end, step}
unfoldable pub use Rattle.csv.specs.Machine.{next_record}
pub use Rattle.csv.specs.Reading.{NextIs, ReadRecord, ReadsNext, default_config, pending_of, records_next, source_of, took_first}
unfoldable pub use Rattle.csv.specs.Reading.{records_from, strip_bom}
unfoldable pub use Rattle.csv.specs.Records.{field_at}
pub use Rattle.csv.specs.declared.parser.State.{State}
pub use Rattle.csv.specs.declared.reader.Reader.{Reader}
pub use Rattle.indexmap.proofs.MapLemmas.{OnOk-map}
pub use Rattle.indexmap.specs.IndexSet.{insert_key}
