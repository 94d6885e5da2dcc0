-- What this crate's proofs name of other crates and of its definitions, in one place.
pub use Rattle.std.proofs.Math.Seq.{take-append-add, take-append_seam}
pub use Rattle.std.proofs.lemmas.Bool.{and_parts, cases_lt}
pub use Rattle.std.proofs.lemmas.Bool.Decides.{Decides-eqb}
pub use Rattle.std.proofs.lemmas.Fmt.{decimal_digit, digits_decimal, first_decimal}
pub use Rattle.std.proofs.lemmas.Grind.{common_steps, flat_map-append}
pub use Rattle.std.proofs.lemmas.List.{append-nil, append_cancel_left, get_or-map, length-append, length-map, length-take-le, map-append, map-id, take-append-le, take-take, take_all, take_more}
pub use Rattle.std.proofs.lemmas.List.FromFn.{map-range_with_len_more}
pub use Rattle.std.proofs.lemmas.Slice.Eq.{strip_prefix_is}
pub use Rattle.std.specs.Io.{StartsWith}
pub use Rattle.std.specs.List.{IsDistinct, join_with_byte, list_all, range_with_len}
pub use borrow.Author.Tests.{ltb-true}
pub use Rattle.at_base.proofs.NumberLaws.{AreDigits, number_of-decimal, own, tells_digits}
pub use Rattle.at_base.specs.Numbers.{number_of}
pub use Rattle.at_broadcast.specs.Node.{NodeState}
pub use Rattle.at_files.proofs.NameLaws.{decimal-AreNames, name-bytes, name_byte-above, position_of-at}
pub use Rattle.at_files.specs.Names.{AreFormed, AreNames, AreNamesOf, NameList, account_name, is_name_byte, plain_names, position_of, process_name}
pub use Rattle.at_files.specs.Payments.{HasAmounts}
pub use Rattle.at_ledger.proofs.Run.{book-run_from, last-take_more, run_from-nil}
pub use Rattle.at_ledger.specs.Book.{BookTerms, IsBook}
pub use Rattle.at_ledger.specs.Call.{AreTargetsOn, IsCallOn, IsLineOn, TargetPair}
pub use Rattle.at_ledger.specs.Run.{asked_in, last_state, run_from}
pub use Rattle.at_ledger.specs.State.{LedgerState, opening_state, step}
pub use Rattle.at_ledger.specs.declared.call.Call.{Call}
pub use Rattle.at_ledger.specs.declared.call.Call.TheVariants.{Pay, Read, Transfer}
pub use Rattle.at_ledger.specs.declared.call.Line.{Line}
pub use Rattle.at_ledger.specs.declared.call.Reply.{Reply}
pub use Rattle.at_ledger.specs.declared.call.Reply.TheVariants.{Balance, Done, Full, NotOwner, Short}
pub use Rattle.at_report.specs.Lines.{IsFirstWord, IsWord, Word, Words, call_words, journal_words, line_shown, line_text, lines_text, reply_word, spaced, targets_words}
pub use Rattle.at_report.specs.Nodes.{node_balance_words, node_lines, validated_word}
unfoldable pub use Rattle.at_report.specs.Nodes.{nodes_from}
pub use Rattle.at_report.specs.Pieces.{LeadsOn, text_before}
pub use Rattle.at_report.specs.Records.{comma_led, record_text, records_text}
pub use Rattle.at_report.specs.Report.{HasBalance, IsPrinted, audit_lines, balance_lines, balance_words, report_text}
pub use Rattle.at_report.specs.Summary.{done_in, made_lines, read_in}
