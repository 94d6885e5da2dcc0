-- Records of printed CSV texts, field by field. No field has a comma, a quote or a line's end in it.
use Rattle.std.specs.Prelude.{ℕ, List, [], ◌∷◌, ◌++◌, flat_map}
use Rattle.at_report.specs.Prelude.{join_with_byte}
use Rattle.at_report.specs.Lines.{Words}

-- the fields parted by commas, and a newline
abbrev pub record_text : Words → List ℕ
record_text fields = join_with_byte 44 fields ++ 10 ∷ []

-- the fields that follow another in its record, each after a comma
abbrev pub comma_led : Words → List ℕ
comma_led fields = flat_map (λ field. 44 ∷ field) fields

-- the records, one after another
abbrev pub records_text : List Words → List ℕ
records_text records = flat_map record_text records
