-- Texts whose pieces stand apart.
use Rattle.std.specs.Prelude.{◌≡◌, ℕ, List, ◌++◌, flat_map, map, take, Vec}
use Rattle.at_report.specs.Prelude.{Global, Line, NameList}
use Rattle.at_report.specs.Lines.{journal_words, lines_text}

-- the pieces, one after another
abbrev pub joined : List (Vec ℕ Global) → List ℕ
joined pieces = flat_map (λ piece. piece.items) pieces

-- the text of the first lines, up to a number
abbrev pub text_before : NameList → List Line → ℕ → List ℕ
text_before names lines count = lines_text (map (journal_words names) (take count lines))

-- the text leads from the text of the first lines up to one number to that up to another
abbrev pub LeadsOn : NameList → List Line → ℕ → ℕ → List ℕ → Type 0
LeadsOn names lines from to text = text_before names lines from ++ text ≡ text_before names lines to
