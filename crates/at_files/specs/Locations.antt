-- Where a record stands in a file, as an editor counts: blank lines have a number too.
use Rattle.std.specs.Prelude.{ℕ, ◌+◌, ◌-◌, ◌==◌, ◌&&◌, ◌||◌, Bool, not, List, [], ◌∷◌, if◌then◌else◌}
use Rattle.at_files.specs.Prelude.{strip_bom}
use Rattle.at_files.specs.declared.location.Location.{Location}

-- a newline or a carriage return
abbrev pub is_line_end : ℕ → Bool
is_line_end byte = (byte == 10) || (byte == 13)

-- whether a line with bytes begins at a byte that stands behind this one
abbrev pub begins_line : ℕ → ℕ → Bool
begins_line last byte = is_line_end last && not (is_line_end byte)

-- whether a line ends at a byte that stands behind this one: with a carriage return, the newline behind it is one end
abbrev pub ends_line : ℕ → ℕ → Bool
ends_line last byte = (byte == 13) || ((byte == 10) && not (last == 13))

-- the line of the record that comes behind so many others, where these bytes stand behind `last` and begin on this line. Each line with a byte is
-- a record's; behind the last one the next line would be
unfoldable pub line_from : ℕ → ℕ → ℕ → List ℕ → ℕ
line_from records line last [] = if is_line_end last then line else line + 1
line_from records line last (byte ∷ rest) =
    if begins_line last byte then (if records == 0 then line else line_from (records - 1) line byte rest)
    else if ends_line last byte then line_from records (line + 1) byte rest
    else line_from records line byte rest

-- the number of a record, with its line
abbrev pub location_of : List ℕ → ℕ → Location
location_of bytes number = record { number = number; line = line_from (number - 1) 1 10 (strip_bom bytes) }
