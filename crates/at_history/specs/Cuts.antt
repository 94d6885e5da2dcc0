-- Cuts: counts that are those of a prefix.
use Rattle.std.specs.Prelude.{◌≡◌, ℕ, ◌+◌, ◌*◌, List, sum, take}
use Rattle.at_history.specs.Prelude.{OWNERS_MAX, OWN_ROOM_MAX, PROCESSES_MAX, ROUNDS_MAX}
use Rattle.at_history.specs.Publications.{counts}
use Rattle.at_history.specs.declared.publication.Publication.{Publication}

-- the length of the prefix that a cut counts
abbrev pub place : List ℕ → ℕ
place view = sum view

-- the largest place: all logs together have room for so many records
abbrev pub places_max : ℕ
places_max = PROCESSES_MAX * OWN_ROOM_MAX + OWNERS_MAX * ROUNDS_MAX

-- the publications that a cut counts
abbrev pub prefix_of : List ℕ → List Publication → List Publication
prefix_of view list = take (place view) list

-- the counts of the view are those of a prefix of the list
abbrev pub IsCut : ℕ → List ℕ → List Publication → Type 0
IsCut processes view list = counts processes (prefix_of view list) ≡ view
