-- What this crate's contracts and definitions name of other crates, in one place.
pub use Rattle.at_files.specs.Names.{AreNamesOf, NameList, process_name}
pub use Rattle.at_ledger.specs.Book.{BookTerms}
pub use Rattle.at_ledger.specs.Files.{IsPlayable, contents_of}
pub use Rattle.at_ledger.specs.NextCalls.{AreWithinFiles, IsNextOfProcess, with_made}
pub use Rattle.at_ledger.specs.Run.{Legal, Whole}
pub use Rattle.at_ledger.specs.State.{opening_state, step}
pub use Rattle.at_ledger.specs.declared.call.Call.{Call}
pub use Rattle.at_ledger.specs.declared.call.Line.{Line}
pub use Rattle.at_report.specs.Lines.{IsFirstWord, IsWord}
pub use Rattle.at_report.specs.Report.{report_text}
pub use Rattle.at_report.specs.ReportLines.{line_bytes}
pub use Rattle.at_report.specs.declared.report_line.ReportLine.{ReportLine}
pub use Rattle.std.specs.Io.BufRead.{drop_through, take_through}
