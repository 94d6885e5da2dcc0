-- A sink in memory.
use Rattle.std.specs.Prelude.{◌-◌, ◌<◌, ◌≤◌, ◌&&◌, ◌++◌, ℕ, Bool, nat_lt, nat_le, List, length, take, min, if◌then◌else◌}
use Rattle.at_io.specs.Faults.{next_count}

-- the most bytes in all and at once, the bytes taken, and the count of faults
pub record SinkInMemory : Type 0 where
  pub room : ℕ
  pub grain : ℕ
  pub taken : List ℕ
  pub faults : ℕ

-- how many bytes a write of a piece of this length takes
abbrev pub write_count : SinkInMemory → ℕ → ℕ
write_count sink count = min sink.grain (min count (sink.room - length sink.taken))

-- a piece of this length, which is not empty, finds no room
abbrev pub write_fails : SinkInMemory → ℕ → Bool
write_fails sink count = nat_lt 0 count && nat_le sink.room (length sink.taken)

-- the sink after a write of a piece
abbrev pub after_write : SinkInMemory → List ℕ → SinkInMemory
after_write sink piece =
    record {
      room = sink.room;
      grain = sink.grain;
      taken = sink.taken ++ take (write_count sink (length piece)) piece;
      faults = if write_fails sink (length piece) then next_count sink.faults else sink.faults;
    }

-- the bytes taken are within the room, for which memory is found, and a write can take a byte
pub record HasRoom (room grain taken capacity : ℕ) : Type 0 where
  pub within : taken ≤ room
  pub found : room ≤ capacity
  pub some : 0 < grain
