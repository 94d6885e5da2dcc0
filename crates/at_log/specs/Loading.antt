-- What a load of a record answers: a published record never changes.
use Rattle.std.specs.Prelude.{◌≡◌, ℕ, List}
use Rattle.at_log.specs.Prelude.{Entry, Knowledge, publication_at, publications_of}

-- the entry of record i of the process
abbrev pub IsEntryOf : Knowledge → ℕ → ℕ → Entry → Type 0
IsEntryOf v p i entry = entry ≡ (publication_at (publications_of p v.seen) i).entry

-- and the view of that record
abbrev pub IsViewOf : Knowledge → ℕ → ℕ → List ℕ → Type 0
IsViewOf v p i view = view ≡ (publication_at (publications_of p v.seen) i).view
