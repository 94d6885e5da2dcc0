-- What this crate's proofs name of other crates and of its definitions, in one place.
pub use Rattle.std.proofs.Math.Seq.{drop-cons, take-add, take-append-add}
pub use Rattle.std.proofs.lemmas.Bool.{cases_lt, eqb-true, ne_eqb}
pub use Rattle.std.proofs.lemmas.Bool.Decides.{nat_tests}
pub use Rattle.std.proofs.lemmas.Grind.{common_steps, flat_map-append}
pub use Rattle.std.proofs.lemmas.List.{append-nil, append_cancel_left, drop-append-le, drop_all, get_or-drop, get_or-take, get_or_append_left, length-append, length-drop, length-take-le, take-append-drop, take-append-le, take_all, take_more, take_rest}
pub use Rattle.std.proofs.lemmas.List.Sums.{sum_by-append, sum_by-cons}
pub use Rattle.std.proofs.lemmas.Option.{slice_get-get_or, slice_get_within}
pub use Rattle.std.specs.List.{join_with_byte}
pub use Rattle.at_files.specs.Names.{NameList, process_name}
pub use Rattle.at_ledger.proofs.Continuing.{AreWithinFiles-none, Continues, completes, continues-cons, continues-from_cons, continues-from_nil, continues-whole, length-continues, none_made, sum-none, whole-continues}
pub use Rattle.at_ledger.proofs.FileLists.{get_or-contents_of, length-contents_of}
pub use Rattle.at_ledger.proofs.Made.{AreWithinFiles-next, all_made, call_known, call_known-at, sum-le, sum-with_made}
pub use Rattle.at_ledger.proofs.Run.{run_from-cons, run_from-nil}
pub use Rattle.at_ledger.specs.Book.{BookTerms}
pub use Rattle.at_ledger.specs.Files.{contents_of}
pub use Rattle.at_ledger.specs.NextCalls.{AreWithinFiles, IsNextOfProcess, with_made}
pub use Rattle.at_ledger.specs.Run.{Run, asked_in, last_state, run_from}
pub use Rattle.at_ledger.specs.State.{LedgerState, opening_state, step}
pub use Rattle.at_ledger.specs.declared.call.Call.{Call}
pub use Rattle.at_ledger.specs.declared.call.Line.{Line}
pub use Rattle.at_report.proofs.WordLaws.{first_word-only}
pub use Rattle.at_report.specs.Lines.{IsFirstWord, IsWord, call_words, journal_words, line_text, lines_text, reply_word}
pub use Rattle.at_report.specs.Report.{audit_lines, heading_words, report_text}
pub use Rattle.at_verify.specs.Right.{IsExpected, IsFirstWrong, IsReport, IsUnmatched, newlines}
unfoldable pub use Rattle.at_verify.specs.Right.{first_lines}
pub use Rattle.at_verify.specs.Walk.{ArePartedAt, DifferAt, GoesOnWith, IsAcross, IsUnmatchedAt, PartsAt}
pub use Rattle.at_report.specs.declared.report_line.ReportLine.{ReportLine}
pub use Rattle.at_verify.specs.declared.place.Place.{Place}
pub use Rattle.at_verify.specs.declared.verifying.Verdict.{Verdict}
pub use Rattle.at_verify.specs.declared.verifying.Verdict.TheVariants.{No, Yes}
