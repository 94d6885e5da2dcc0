-- A report beside the files that it should be the report of, and what `verify` says of it.
use Rattle.std.specs.Prelude.{◌≡◌, ℕ, List, Ok, Option, IfSome}
use Rattle.at_commands.specs.Prelude.{Call, verified_line, Status, NotLegal, ReportLine, IsExpected, IsFirstWrong, IsReport, IsReportOf}
use Rattle.at_commands.specs.Commands.{KeepingNone}
use Rattle.at_commands.specs.Forms.{FurtherOf, FurtherTerms}

-- a book, the calls of each process, and the bytes of a report
abbrev pub Claim : Type 0
Claim = FurtherOf Call ℕ

-- the report is that of a run: the ledger gives its replies, and each process makes its own calls in order
abbrev pub IsRight : Claim → Type 0
IsRight c = IsReport c.what.book c.what.names c.what.files c.further

-- the least line up to which the report isn't right
abbrev pub IsWrongAt : Claim → ℕ → Type 0
IsWrongAt c line = IsFirstWrong c.what.book c.what.names c.what.files c.further line

-- the line that is told, where one is, is one with which some report goes on in place of the wrong one
abbrev pub IsExpectedAt : Claim → ℕ → Option ReportLine → Type 0
IsExpectedAt c line expected = IfSome expected (IsExpected c.what.book c.what.names c.what.files c.further line)

-- the text says of how many lines of a run the report is one
pub record Verifies (c : Claim) (text : List ℕ) : Type 0 where
  pub count : ℕ
  pub report : IsReportOf c.what.book c.what.names c.what.files count c.further
  pub printed : text ≡ verified_line count

-- what a claim is refused as besides: for its first wrong line, with the one that was expected
abbrev pub RefusesClaim : Claim → Status → Type 0
RefusesClaim c (NotLegal line expected) = IsWrongAt c line × IsExpectedAt c line expected
RefusesClaim c refusal = ⊥

-- `verify`: the report is what its file holds, byte by byte
abbrev pub verify_terms : FurtherTerms Call ℕ
verify_terms = record {
  given = λ l bytes. Ok bytes;
  spells = λ l bytes report. report ≡ bytes;
  refuses = RefusesClaim;
  prints = KeepingNone Verifies;
}
