-- The limits of the files beside a book, and of a name, as numbers.
use Rattle.std.specs.Prelude.{ℕ}

-- calls of one payment file for a replay
abbrev pub most_replay_calls : ℕ
most_replay_calls = 64

-- bytes of a name
abbrev pub most_name_bytes : ℕ
most_name_bytes = 16

-- messages of one message file, and so what an entry of `deps` can count
abbrev pub most_messages : ℕ
most_messages = 256

-- deliveries of one file
abbrev pub most_deliveries : ℕ
most_deliveries = 65536

-- turns of one schedule
abbrev pub most_scheduled_turns : ℕ
most_scheduled_turns = 1000000
