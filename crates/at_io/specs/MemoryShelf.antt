-- A shelf in memory: its calls are counted, and fail at given numbers.
use Rattle.std.specs.Prelude.{◌==◌, ℕ, Bool, List, [], drop, length, min, if◌then◌else◌, unwrap_or}
use Rattle.at_io.specs.Prelude.{list_any}
use Rattle.at_io.specs.Faults.{next_count}
use Rattle.at_io.specs.HeldFiles.{Held, file_of}

-- the files held, the numbers of the calls that fail, the most bytes that a read gives, and the
-- counts of calls and of faults
pub record ShelfInMemory : Type 0 where
  pub held : Held
  pub failing : List ℕ
  pub grain : ℕ
  pub calls : ℕ
  pub faults : ℕ

-- the next call is one that fails
abbrev pub next_fails : ShelfInMemory → Bool
next_fails shelf = list_any (λ call. call == shelf.calls) shelf.failing

-- the shelf after a call that leaves this rest
abbrev pub after_call : ShelfInMemory → List ℕ → ShelfInMemory
after_call shelf rest =
    record {
      held = record { files = shelf.held.files; rest = rest };
      failing = shelf.failing;
      grain = shelf.grain;
      calls = next_count shelf.calls;
      faults = if next_fails shelf then next_count shelf.faults else shelf.faults;
    }

-- the rest after a file of this name was chosen
abbrev pub rest_chosen : ShelfInMemory → List ℕ → List ℕ
rest_chosen shelf name =
    if next_fails shelf then [] else unwrap_or (file_of shelf.held.files name) []

-- how many bytes a read into a buffer of this length gives
abbrev pub read_count : ShelfInMemory → ℕ → ℕ
read_count shelf room = min shelf.grain (min room (length shelf.held.rest))

-- the rest after a read into a buffer of this length
abbrev pub rest_read : ShelfInMemory → ℕ → List ℕ
rest_read shelf room =
    if next_fails shelf then shelf.held.rest else drop (read_count shelf room) shelf.held.rest
