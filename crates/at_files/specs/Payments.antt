-- The payments of one process: the calls that the records of its file spell, or the first fault.
use Rattle.std.specs.Prelude.{◌≡◌, ℕ, ◌^◌, ◌+◌, ◌<◌, ◌≤◌, ◌==◌, Bool, true, false, ◌&&◌, ◌||◌, ◌⊎◌, List, [], ◌∷◌, length, drop, get_or, is_some, map, All, bytes_eq, codes, decimal, nat_lt, Option, Some, None, Result, Ok, Err, if◌then◌else◌}
use Rattle.at_files.specs.Prelude.{number_of, BookTerms, TargetPair, IsCallOn, Call, Transfer, Read, Pay, most_targets, most_calls}
use Rattle.at_files.specs.Names.{NameList, account_name, position_of, process_name}
use Rattle.at_files.specs.Records.{Fields, before, field_of, number_at, has_shape}
use Rattle.at_files.specs.declared.payments_fault.PaymentsWhy.{PaymentsWhy}
use Rattle.at_files.specs.declared.payments_fault.PaymentsWhy.TheVariants.{Shape, Number, UnknownAccount, TooManyCalls, Process}
use Rattle.at_files.specs.declared.payments_fault.BadPayments.{BadPayments}
use Rattle.at_files.specs.declared.spelled.BadRecord.{BadRecord}
use Rattle.at_files.specs.Spelled.{items_from}

-- a transfer between two of so many accounts
abbrev pub transfer_of : ℕ → Option ℕ → Option ℕ → Option ℕ → Result Call PaymentsWhy
transfer_of accounts (Some from) (Some to) (Some amount) =
    if nat_lt from accounts && nat_lt to accounts then Ok (Transfer from to amount) else Err UnknownAccount
transfer_of accounts _ _ _ = Err Number

-- a read of one of so many accounts
abbrev pub read_of : ℕ → Option ℕ → Result Call PaymentsWhy
read_of accounts (Some account) = if nat_lt account accounts then Ok (Read account) else Err UnknownAccount
read_of accounts None = Err Number

-- the call that a record spells, where accounts are given by their numbers
abbrev pub plain_call_of : ℕ → Fields → Result Call PaymentsWhy
plain_call_of accounts fields =
    if has_shape (codes "transfer") 4 fields then transfer_of accounts (number_at fields 1) (number_at fields 2) (number_at fields 3)
    else if has_shape (codes "read") 2 fields then read_of accounts (number_at fields 1)
    else Err Shape

-- a transfer between accounts that are given by their names
abbrev pub named_transfer : Option ℕ → Option ℕ → Option ℕ → Result Call PaymentsWhy
named_transfer from to None = Err Number
named_transfer None to (Some amount) = Err UnknownAccount
named_transfer (Some from) None (Some amount) = Err UnknownAccount
named_transfer (Some from) (Some to) (Some amount) = Ok (Transfer from to amount)

-- a read of an account that is given by its name
abbrev pub named_read : Option ℕ → Result Call PaymentsWhy
named_read (Some account) = Ok (Read account)
named_read None = Err UnknownAccount

-- whether the fields of a pay-out's targets have numbers as amounts
unfoldable pub has_amounts : Fields → Bool
has_amounts (name ∷ amount ∷ rest) = is_some (number_of amount) && has_amounts rest
has_amounts _ = true

-- an account with an amount, if both are there
abbrev pub target_of : Option ℕ → Option ℕ → Option TargetPair
target_of (Some to) (Some amount) = Some (to, amount)
target_of _ _ = None

-- the targets that these fields give, a name and an amount for each
unfoldable pub targets_spelled : List (List ℕ) → Fields → Option (List TargetPair)
targets_spelled names [] = Some []
targets_spelled names (name ∷ []) = None
targets_spelled names (name ∷ amount ∷ rest) = before (target_of (position_of names name) (number_of amount)) (targets_spelled names rest)

-- a pay-out between accounts that are given by their names
abbrev pub named_pay : Option ℕ → Bool → Option (List TargetPair) → Result Call PaymentsWhy
named_pay from false targets = Err Number
named_pay None true targets = Err UnknownAccount
named_pay (Some from) true None = Err UnknownAccount
named_pay (Some from) true (Some targets) = Ok (Pay from targets)

-- whether the record is a pay-out to one, two, three or four targets
abbrev pub is_pay : Fields → Bool
is_pay fields =
    has_shape (codes "pay") 4 fields || has_shape (codes "pay") 6 fields || has_shape (codes "pay") 8 fields || has_shape (codes "pay") 10 fields

-- the call that a record spells, where accounts are given by these names
abbrev pub named_call_of : List (List ℕ) → Fields → Result Call PaymentsWhy
named_call_of names fields =
    if has_shape (codes "transfer") 4 fields
    then named_transfer (position_of names (field_of fields 1)) (position_of names (field_of fields 2)) (number_at fields 3)
    else if has_shape (codes "read") 2 fields then named_read (position_of names (field_of fields 1))
    else if is_pay fields then named_pay (position_of names (field_of fields 1)) (has_amounts (drop 2 fields)) (targets_spelled names (drop 2 fields))
    else Err Shape

-- the call that a record spells beside a book's names
abbrev pub call_of : NameList → Fields → Result Call PaymentsWhy
call_of names fields =
    if names.version == 2 then named_call_of names.accounts fields else plain_call_of (length names.accounts) fields

-- the file's fault that a fault of its records is
abbrev pub payments_fault : BadRecord PaymentsWhy → BadPayments
payments_fault bad = record { line = bad.line; why = bad.why }

-- calls of a file, or the file's fault that the first fault of its records is
abbrev pub calls_or_fault : Result (List Call) (BadRecord PaymentsWhy) → Result (List Call) BadPayments
calls_or_fault (Ok calls) = Ok calls
calls_or_fault (Err bad) = Err (payments_fault bad)

-- whether the record names the process of its file
abbrev pub names_process : Fields → Bool
names_process fields = has_shape (codes "process") 2 fields

-- so many records stand before those of the calls: one, where the first names a process
abbrev pub before_calls : List Fields → ℕ
before_calls records = if names_process (get_or records 0 []) then 1 else 0

-- the file names no other process than this one
abbrev pub is_of : NameList → ℕ → List Fields → Bool
is_of names process records =
    if names_process (get_or records 0 []) then bytes_eq (field_of (get_or records 0 []) 1) (process_name names process) else true

-- the file names no other process, and these records are left behind those that are no calls, which are so many
pub record BeginsBehind (names : NameList) (process : ℕ) (records : List Fields) (skipped : ℕ) (rest : List Fields) : Type 0 where
  pub of : is_of names process records ≡ true
  pub skipped_is : skipped ≡ before_calls records
  pub rest_is : rest ≡ drop (before_calls records) records

-- the file names another process, which is this fault
pub record NamesAnother (names : NameList) (process : ℕ) (records : List Fields) (bad : BadRecord PaymentsWhy) : Type 0 where
  pub of : is_of names process records ≡ false
  pub fault_is : bad ≡ record { line = 1; why = Process }

-- the calls of the records behind so many that are none, or the first fault
abbrev pub calls_behind : NameList → ℕ → List Fields → Result (List Call) BadPayments
calls_behind names skipped records = calls_or_fault (items_from (call_of names) (skipped + most_calls) TooManyCalls (skipped + 1) records)

-- the calls of a file's records, or the first fault: that it names another process comes first
abbrev pub payments_of : NameList → ℕ → List Fields → Result (List Call) BadPayments
payments_of names process records =
    if is_of names process records then calls_behind names (before_calls records) (drop (before_calls records) records)
    else Err (record { line = 1; why = Process })

-- the fields of a pay-out's targets, a name and an amount for each
unfoldable pub fields_of_targets : NameList → List TargetPair → Fields
fields_of_targets names [] = []
fields_of_targets names (t ∷ ts) = account_name names t.0 ∷ decimal t.1 ∷ fields_of_targets names ts

-- the record of a call
abbrev pub fields_of_call : NameList → Call → Fields
fields_of_call names (Transfer from to amount) =
    codes "transfer" ∷ account_name names from ∷ account_name names to ∷ decimal amount ∷ []
fields_of_call names (Read account) = codes "read" ∷ account_name names account ∷ []
fields_of_call names (Pay from targets) = codes "pay" ∷ account_name names from ∷ fields_of_targets names targets

-- files beside a book of this version may have the call: pay-outs, of one to four targets, came with version 2
abbrev pub IsCallOfVersion : ℕ → Call → Type 0
IsCallOfVersion version (Transfer from to amount) = Unit {0}
IsCallOfVersion version (Read account) = Unit {0}
IsCallOfVersion version (Pay from targets) = (version ≡ 2) × (1 ≤ length targets) × (length targets ≤ most_targets)

-- the amounts of a call are numbers that a file can hold
abbrev pub HasAmounts : Call → Type 0
HasAmounts (Transfer from to amount) = amount < 2 ^ 64
HasAmounts (Read account) = Unit {0}
HasAmounts (Pay from targets) = All (λ t. t.1 < 2 ^ 64) targets

-- the record that names a process, of which the file is
abbrev pub fields_of_process : NameList → ℕ → Fields
fields_of_process names process = codes "process" ∷ process_name names process ∷ []

-- the records are these calls, written out one after another, as they are or behind one that names the process. They name accounts of the
-- book, have amounts below 2 ^ 64, are of the book's version, and are at most 16,384
pub record Pays (b : BookTerms) (names : NameList) (process : ℕ) (records : List Fields) (calls : List Call) : Type 0 where
  pub spelled : (records ≡ map (fields_of_call names) calls) ⊎ (records ≡ fields_of_process names process ∷ map (fields_of_call names) calls)
  pub known : All (IsCallOn (length b.accounts)) calls
  pub amounts : All HasAmounts calls
  pub versions : All (IsCallOfVersion names.version) calls
  pub few : length calls ≤ most_calls
