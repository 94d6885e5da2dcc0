-- Texts in pieces.
use Rattle.std.proofs.Common.{◌≡◌, ℕ, ◌+◌, List, [], ◌++◌, length, get_or, ◌<◌, ap, ◌∙◌, sym, append_assoc}
use Rattle.at_report.proofs.Prelude.{Line, NameList, journal_words, line_text, LeadsOn, text_before}
use Rattle.at_report.proofs.LineLaws.{lines_text-take_more}

-- a text that leads to one number of lines, and then the next line
pub LeadsOn-more : (names : NameList) (lines : List Line) (from i : ℕ) (text : List ℕ) (x : Line) → i < length lines → x ≡ get_or lines i x
    → LeadsOn names lines from i text → LeadsOn names lines from (i + 1) (text ++ line_text (journal_words names x))
LeadsOn-more names lines from i text x within is leads =
    let line = line_text (journal_words names x) in
    sym (append_assoc (text_before names lines from) text line)
    ∙ (ap (λ (t : List ℕ). t ++ line) leads ∙ lines_text-take_more (journal_words names) [] lines i x within is)
