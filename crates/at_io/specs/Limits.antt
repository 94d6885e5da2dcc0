-- The limit of a file, as a number.
use Rattle.std.specs.Prelude.{ℕ}

-- the most bytes that are fetched
abbrev pub most_file_bytes : ℕ
most_file_bytes = 8388608
