-- The records of a file, and what one of them holds.
use Rattle.std.specs.Prelude.{ℕ, Bool, ◌&&◌, ◌==◌, List, [], ◌∷◌, length, bytes_eq, Option, Some, None, unwrap_or}
use Rattle.at_files.specs.Prelude.{default_config, records, strip_bom, field_at, number_of}

-- a record: its fields, each as bytes
abbrev pub Fields : Type 0
Fields = List (List ℕ)

-- what stands before others, if all of them are there
abbrev pub before : {A : Type 0} → Option A → Option (List A) → Option (List A)
before (Some x) (Some later) = Some (x ∷ later)
before _ _ = None

-- the records of a file: comma, double quote, no headers, any number of fields, and no byte order mark at its start
abbrev pub file_records : List ℕ → List Fields
file_records bytes = records default_config (strip_bom bytes)

-- the field at a position, from 0, and no byte past the last field
abbrev pub field_of : Fields → ℕ → List ℕ
field_of fields i = unwrap_or (field_at fields i) []

-- the number that the field at a position is
abbrev pub number_at : Fields → ℕ → Option ℕ
number_at fields i = number_of (field_of fields i)

-- whether the record has this many fields, the first of which is the word
abbrev pub has_shape : List ℕ → ℕ → Fields → Bool
has_shape word count fields = (length fields == count) && bytes_eq (field_of fields 0) word
