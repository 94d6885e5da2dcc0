-- The walk over a text: where no report goes on as the text does.
use Rattle.std.specs.Prelude.{◌≡◌, ℕ, ◌+◌, ◌<◌, ◌≤◌, ◌≢◌, List, [], ◌∷◌, ◌++◌, drop, length, max, take, slice_index}
use Rattle.at_verify.specs.Prelude.{BookTerms, Call, NameList, ReportLine, line_bytes, IsFirstWord, IsWord}
use Rattle.at_verify.specs.Right.{IsReport, first_lines, newlines}

-- the two texts have the first bytes in common, and there they part
pub record ArePartedAt (x y : List ℕ) (n : ℕ) : Type 0 where
  pub left : n ≤ length x
  pub right : n ≤ length y
  pub same : take n x ≡ take n y
  pub part : n < length x → n < length y → slice_index x n ≢ slice_index y n

-- the two texts have the first bytes in common, and there they part or the shorter one ends
pub record DifferAt (x y : List ℕ) (n : ℕ) : Type 0 where
  pub parted : ArePartedAt x y n
  pub more : n < max (length x) (length y)

-- some report has the text's first bytes, and each report differs from the text in the line after them
pub record PartsAt (b : BookTerms) (names : NameList) (files : List (List Call)) (text : List ℕ) (n : ℕ) : Type 0 where
  pub within : n ≤ length text
  pub report : List ℕ
  pub is : IsReport b names files report
  pub same : take n report ≡ take n text
  pub only : (other : List ℕ) → IsReport b names files other
      → first_lines (newlines (take n text) + 1) text ≡ first_lines (newlines (take n text) + 1) other → ⊥

-- some report has the text's first bytes and goes on with these; at least the heading's line ends in them
pub record GoesOnWith (b : BookTerms) (names : NameList) (files : List (List Call)) (text : List ℕ) (n : ℕ) (rest : List ℕ) : Type 0 where
  pub behind : List ℕ
  pub is : IsReport b names files (take n text ++ (rest ++ behind))
  pub lines : 0 < newlines (take n text) + newlines rest

-- the line that begins in the first text and ends in the rest, whatever comes behind
pub record IsAcross (text rest : List ℕ) (e : ReportLine) : Type 0 where
  pub bytes : List ℕ
  pub kept : line_bytes e ≡ take 256 bytes
  pub line_is : (behind : List ℕ)
      → first_lines (newlines text + 1) (text ++ (rest ++ behind)) ≡ first_lines (newlines text) text ++ bytes ++ 10 ∷ []

-- the text's first bytes are whole lines, and no report that has them goes on with the text's next word
pub record IsUnmatchedAt (b : BookTerms) (names : NameList) (files : List (List Call)) (text : List ℕ) (n : ℕ) : Type 0 where
  pub ended : first_lines (newlines (take n text)) (take n text) ≡ take n text
  pub none : (report rest word : List ℕ) → IsReport b names files report → report ≡ take n text ++ rest
      → IsWord word → IsFirstWord word (drop n text) → IsFirstWord word rest → ⊥
