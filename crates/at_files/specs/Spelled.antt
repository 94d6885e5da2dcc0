-- What the records of a file spell, one after another.
use Rattle.std.specs.Prelude.{ℕ, ◌+◌, ◌==◌, Bool, List, [], ◌∷◌, ◌++◌, Result, Ok, Err, if◌then◌else◌}
use Rattle.at_files.specs.Records.{Fields}
use Rattle.at_files.specs.declared.spelled.BadRecord.{BadRecord}

-- a fault of the record of this line
abbrev pub bad_record : {T W : Type 0} → ℕ → W → Result (List T) (BadRecord W)
bad_record line why = Err (record { line = line; why = why })

-- items before those that come later, unless a fault does
abbrev pub items_before : {T W : Type 0} → List T → Result (List T) (BadRecord W) → Result (List T) (BadRecord W)
items_before items (Ok later) = Ok (items ++ later)
items_before items (Err bad) = Err bad

-- what the record of this line spells, and then what comes later
abbrev pub item_before : {T W : Type 0} → ℕ → Result T W → Result (List T) (BadRecord W) → Result (List T) (BadRecord W)
item_before line (Ok item) later = items_before (item ∷ []) later
item_before line (Err why) later = bad_record line why

-- the items so far with what the record of this line spells
abbrev pub with_item : {T W : Type 0} → ℕ → List T → Result T W → Result (List T) (BadRecord W)
with_item line items (Ok item) = Ok (items ++ item ∷ [])
with_item line items (Err why) = bad_record line why

-- what the records spell from this line on, by what one of them does: up to the line `last`, and behind it `over` is the cause
unfoldable pub items_from : {T W : Type 0} → (Fields → Result T W) → ℕ → W → ℕ → List Fields → Result (List T) (BadRecord W)
items_from item last over line [] = Ok []
items_from item last over line (fields ∷ records) =
    if line == last + 1 then bad_record line over
    else item_before line (item fields) (items_from item last over (line + 1) records)

-- what a file's records spell, no more than `most`, or the first fault
abbrev pub items_of : {T W : Type 0} → (Fields → Result T W) → ℕ → W → List Fields → Result (List T) (BadRecord W)
items_of item most over records = items_from item most over 1 records

-- the records that are left where the next one was found, or where there is none
abbrev pub next_and_rest : Bool → Fields → List Fields → List Fields
next_and_rest found fields rest = if found then fields ∷ rest else []
