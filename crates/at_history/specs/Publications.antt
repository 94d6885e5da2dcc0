-- Lists of publications: which of them are a process's, and how many each process has.
use Rattle.std.specs.Prelude.{◌≡◌, ℕ, ◌<◌, ◌==◌, ◌++◌, List, [], length, map, filter, All, nat_lt, if◌then◌else◌}
use Rattle.at_history.specs.Prelude.{range_with_len}
use Rattle.at_history.specs.declared.publication.Entry.TheVariants.{Own}
use Rattle.at_history.specs.declared.publication.Publication.{Publication}

-- a publication that no list holds
abbrev pub no_publication : Publication
no_publication = record { process = 0; view = []; entry = Own 0 [] }

-- the publications of a process, in their order
unfoldable pub publications_of : ℕ → List Publication → List Publication
publications_of process list = filter (λ x. x.process == process) list

-- how many publications a process has
abbrev pub count_of : ℕ → List Publication → ℕ
count_of process list = length (publications_of process list)

-- how many publications each of the processes has
unfoldable pub counts : ℕ → List Publication → List ℕ
counts processes list = map (λ process. count_of process list) (range_with_len 0 processes)

-- each publication is one of these processes'
abbrev pub ArePublishedBy : ℕ → List Publication → Type 0
ArePublishedBy processes list = All (λ x. x.process < processes) list

-- the first list is a prefix of the second
abbrev pub IsPrefix : List Publication → List Publication → Type 0
IsPrefix list whole = (more : List Publication) × (whole ≡ list ++ more)

-- the longer of two lists
abbrev pub longer : List Publication → List Publication → List Publication
longer xs ys = if nat_lt (length xs) (length ys) then ys else xs
