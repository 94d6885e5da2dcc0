-- What the words of a closed board tell of the records of a process.
use Rattle.std.specs.Prelude.{◌≡◌, ℕ, List}
use Rattle.at_log.specs.Prelude.{Entry, publication_at, publications_of, EndTerms, IsEnd, SeatTerms}

-- the entry of record i of the process, in whatever state the board was closed
abbrev pub IsEndedEntry : EndTerms → ℕ → ℕ → Entry → Type 0
IsEndedEntry e p i entry =
    (seats : List SeatTerms) (ended : IsEnd e seats) → entry ≡ (publication_at (publications_of p ended.state.published) i).entry

-- and the view of that record
abbrev pub IsEndedView : EndTerms → ℕ → ℕ → List ℕ → Type 0
IsEndedView e p i view =
    (seats : List SeatTerms) (ended : IsEnd e seats) → view ≡ (publication_at (publications_of p ended.state.published) i).view
