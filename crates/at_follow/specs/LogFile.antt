-- The file of a log: an entry a line, in hex.
use Rattle.std.specs.Prelude.{◌≡◌, ℕ, ◌+◌, ◌-◌, ◌<◌, ◌==◌, Bool, not, List, [], ◌∷◌, length, map, slice_index_or, take, Result, Ok, Err, IsErr, if◌then◌else◌}
use Rattle.at_follow.specs.Prelude.{FromHexError, decode_of, filter, slice_split}

-- a line without its last byte, where that is a carriage return
abbrev pub without_return : List ℕ → List ℕ
without_return line = if slice_index_or line (length line - 1) 0 == 13 then take (length line - 1) line else line

-- the lines of a file: what stands between its newlines
abbrev pub text_lines : List ℕ → List (List ℕ)
text_lines bytes = map without_return (slice_split (λ byte. byte == 10) bytes)

-- a line with bytes
abbrev pub is_written : List ℕ → Bool
is_written line = not (length line == 0)

-- the lines that have bytes are these entries in hex, in their order
abbrev pub SpellsEntries : List ℕ → List (List ℕ) → Type 0
SpellsEntries bytes entries = map decode_of (filter is_written (text_lines bytes)) ≡ map Ok entries

-- the line at a position, from 0, is no hex
abbrev pub IsBadLine : List ℕ → ℕ → Type 0
IsBadLine bytes i = IsErr (decode_of (slice_index_or (text_lines bytes) i []))

-- the first line that is no hex has this number, from 1
pub record IsFirstBadLine (bytes : List ℕ) (line : ℕ) : Type 0 where
  pub position : ℕ
  pub number : line ≡ position + 1
  pub within : position < length (text_lines bytes)
  pub bad : IsBadLine bytes position
  pub before : (i : ℕ) → i < position → ¬ IsBadLine bytes i

-- what a line with its number and the lines after it are read as
abbrev pub line_read : ℕ → Bool → Result (List ℕ) FromHexError → Result (List (List ℕ)) ℕ → Result (List (List ℕ)) ℕ
line_read number written (Err e) later = Err number
line_read number written (Ok entry) (Err n) = Err n
line_read number written (Ok entry) (Ok entries) = Ok (if written then entry ∷ entries else entries)

-- the lines, of which the first has this number
unfoldable pub lines_read : ℕ → List (List ℕ) → Result (List (List ℕ)) ℕ
lines_read number [] = Ok []
lines_read number (line ∷ lines) = line_read number (is_written line) (decode_of line) (lines_read (number + 1) lines)

-- the same as a function: the entries of a file, or the number of its first line that is no hex
abbrev pub log_read : List ℕ → Result (List (List ℕ)) ℕ
log_read bytes = lines_read 1 (text_lines bytes)
