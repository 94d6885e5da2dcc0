-- What `agree` prints, and the closed ledger that it keeps.
use Rattle.std.specs.Prelude.{◌≡◌, ℕ, ⊤, List, length, Option, Some}
use Rattle.at_commands.specs.Prelude.{IsAgreement, ClosedTerms, agreed_line}
use Rattle.at_commands.specs.Commands.{Promise, unread_promise}

-- the closed ledger of a council is kept, on which each process made its four calls with its value. The last receipt of every process
-- gives this one value, and it is one of the values
pub record KeepsAgreement (values : List ℕ) (kept : Option ClosedTerms) (value : ℕ) : Type 0 where
  pub closed : ClosedTerms
  pub is_kept : kept ≡ Some closed
  pub agreement : IsAgreement values closed value

-- the text is the line of the value that is agreed on in what is kept
pub record PrintsAgreed (values : List ℕ) (kept : Option ClosedTerms) (text : List ℕ) : Type 0 where
  pub value : ℕ
  pub agreed : KeepsAgreement values kept value
  pub printed : text ≡ agreed_line (length values) value

-- what `agree` promises of these values
abbrev pub agree_promise : List ℕ → Promise ⊤
agree_promise values = unread_promise (PrintsAgreed values)
