-- The bytes of a line of a report that is kept without memory.
use Rattle.std.specs.Prelude.{ℕ, List, take}
use Rattle.at_report.specs.declared.report_line.ReportLine.{ReportLine}

abbrev pub line_bytes : ReportLine → List ℕ
line_bytes l = take l.length l.bytes
