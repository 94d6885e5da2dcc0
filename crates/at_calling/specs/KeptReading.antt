-- What the type of a read in the making keeps of its fields, which no caller sees.
use Rattle.std.specs.Prelude.{ℕ, ◌<◌, length}
use Rattle.at_calling.specs.Prelude.{LookingTerms}

-- the account is one of the book's
abbrev pub IsReadingSo : ℕ → LookingTerms → Type 0
IsReadingSo account looking = account < length looking.start.book.accounts
