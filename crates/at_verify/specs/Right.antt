-- Which texts are reports of a run of some files, and up to which line another text is right.
use Rattle.std.specs.Prelude.{◌≡◌, ℕ, zero, suc, ◌-◌, ◌<◌, ◌==◌, List, [], ◌∷◌, ◌++◌, length, take, count_by}
use Rattle.at_verify.specs.Prelude.{drop_through, take_through, BookTerms, Legal, Whole, Call, Line, NameList, ReportLine, line_bytes, IsFirstWord, IsWord, report_text}

-- the first lines of a text: a line is its bytes up to and with a newline, and the bytes after the last one are a line too
unfoldable pub first_lines : ℕ → List ℕ → List ℕ
first_lines zero text = []
first_lines (suc m) text = take_through 10 text ++ first_lines m (drop_through 10 text)

-- how many lines of the text end
abbrev pub newlines : List ℕ → ℕ
newlines text = count_by (λ byte. byte == 10) text

-- the text is the report of a run of the files: the ledger gives these replies, and each process makes its own calls in order
pub record IsReport (b : BookTerms) (names : NameList) (files : List (List Call)) (text : List ℕ) : Type 0 where
  pub lines : List Line
  pub legal : Legal b lines
  pub whole : Whole files lines
  pub spelled : text ≡ report_text b names lines

-- the text is the report of a run of so many lines
pub record IsReportOf (b : BookTerms) (names : NameList) (files : List (List Call)) (count : ℕ) (text : List ℕ) : Type 0 where
  pub is : IsReport b names files text
  pub lines : length is.lines ≡ count

-- some report has the same first lines
pub record IsRightUpTo (b : BookTerms) (names : NameList) (files : List (List Call)) (text : List ℕ) (line : ℕ) : Type 0 where
  pub report : List ℕ
  pub is : IsReport b names files report
  pub same : first_lines line text ≡ first_lines line report

-- the least line up to which the text isn't right
pub record IsFirstWrong (b : BookTerms) (names : NameList) (files : List (List Call)) (text : List ℕ) (line : ℕ) : Type 0 where
  pub right : (m : ℕ) → m < line → IsRightUpTo b names files text m
  pub wrong : IsRightUpTo b names files text line → ⊥

-- some report has the text's lines before the wrong one, and goes on with this line: of a long one its first bytes
pub record IsExpected (b : BookTerms) (names : NameList) (files : List (List Call)) (text : List ℕ) (line : ℕ) (e : ReportLine) : Type 0 where
  pub report : List ℕ
  pub is : IsReport b names files report
  pub bytes : List ℕ
  pub line_is : first_lines line report ≡ first_lines (line - 1) text ++ bytes ++ 10 ∷ []
  pub kept : line_bytes e ≡ take 256 bytes

-- no report that has the text's lines before this one goes on with the text's next word
pub record IsUnmatched (b : BookTerms) (names : NameList) (files : List (List Call)) (text : List ℕ) (line : ℕ) : Type 0 where
  pub none : (report own rest word : List ℕ) → IsReport b names files report → text ≡ first_lines (line - 1) text ++ own
      → report ≡ first_lines (line - 1) text ++ rest → IsWord word → IsFirstWord word own → IsFirstWord word rest → ⊥
