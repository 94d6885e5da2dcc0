-- When each refusal may come.
use Rattle.std.specs.Prelude.{◌≡◌, ℕ, ◌+◌, ◌<◌, ◌≤◌, ◌-◌, ◌^◌, ◌≢◌, ◌⊎◌, ⊤, Bool, true, Result, Ok, Err}
use Rattle.at_commands.specs.Prelude.{Rose, Status, Done, Usage, BadBook, BadPayments, ReadFault, WriteFault, NoMemory, TooLong, BadSchedule, BadOrder, BadMessages}
use Rattle.at_report.specs.declared.status.UsageFault.TheVariants as usage

-- a refusal that only the bytes of the files can bring: no fault was counted, and it is the one that a telling shelf's files bring
abbrev pub IsBrought : {A : Type 0} → Bool → Result A Status → ℕ → ℕ → Status → Type 0
IsBrought tells expected before now refusal = (now ≡ before) × (tells ≡ true → expected ≡ Err refusal)

-- a file could not be read: a fault was counted, or a telling shelf's files lack it
abbrev pub IsUnread : {A : Type 0} → Bool → Result A Status → ℕ → ℕ → Status → Type 0
IsUnread tells expected before now refusal = Rose before now ⊎ ((tells ≡ true) × (expected ≡ Err refusal))

-- the files of the processes: payments, payments with a schedule of the turns that make them, or messages with their deliveries
pub data Kind : Type 0 where
  payments : Kind
  scheduled : Kind
  messages : Kind

-- when loading files of this kind may be refused so, over a shelf whose files lead to what is expected, by its counts of faults
-- before and now. Want of memory may come at any time. A file that couldn't be read needs a counted fault, or a telling shelf that lacks the
-- file. Every other refusal needs that the count of faults is as it was and, over a telling shelf, that it is the one that the files bring
abbrev pub MayRefuseOf : {A : Type 0} → Kind → Bool → Result A Status → ℕ → ℕ → Status → Type 0
MayRefuseOf kind tells expected before now NoMemory = ⊤
MayRefuseOf kind tells expected before now (ReadFault file) = IsUnread tells expected before now (ReadFault file)
MayRefuseOf kind tells expected before now (Usage (usage.Files wanted given)) = IsBrought tells expected before now (Usage (usage.Files wanted given))
MayRefuseOf kind tells expected before now (BadBook at why) = IsBrought tells expected before now (BadBook at why)
MayRefuseOf kind tells expected before now (TooLong file) = IsBrought tells expected before now (TooLong file)
MayRefuseOf payments tells expected before now (BadPayments process at why) = IsBrought tells expected before now (BadPayments process at why)
MayRefuseOf scheduled tells expected before now (BadPayments process at why) = IsBrought tells expected before now (BadPayments process at why)
MayRefuseOf scheduled tells expected before now (BadSchedule at why) = IsBrought tells expected before now (BadSchedule at why)
MayRefuseOf messages tells expected before now (BadMessages process at why) = IsBrought tells expected before now (BadMessages process at why)
MayRefuseOf messages tells expected before now (BadOrder at why) = IsBrought tells expected before now (BadOrder at why)
MayRefuseOf _ tells expected before now _ = ⊥

-- the same of a book and payments
abbrev pub MayRefuse : {A : Type 0} → Bool → Result A Status → ℕ → ℕ → Status → Type 0
MayRefuse tells expected before now refusal = MayRefuseOf payments tells expected before now refusal

-- what a process's file that was fetched may be refused as, where its bytes lead to what is expected
abbrev pub RefusesFile : {A : Type 0} → Kind → Result A Status → ℕ → Status → Type 0
RefusesFile kind expected process NoMemory = ⊤
RefusesFile payments expected process (BadPayments p at why) = (p ≡ process) × (expected ≡ Err (BadPayments p at why))
RefusesFile scheduled expected process (BadPayments p at why) = (p ≡ process) × (expected ≡ Err (BadPayments p at why))
RefusesFile messages expected process (BadMessages p at why) = (p ≡ process) × (expected ≡ Err (BadMessages p at why))
RefusesFile _ expected process _ = ⊥

-- the numbers that a refusal carries are those of a form with this many files of processes
abbrev pub HasFileNumbers : ℕ → Status → Type 0
HasFileNumbers files (Usage (usage.Files wanted given)) = (given ≡ files) × (wanted ≢ given)
HasFileNumbers files (BadPayments process at why) = process < files
HasFileNumbers files (BadMessages process at why) = process < files
HasFileNumbers files (ReadFault file) = file ≤ files
HasFileNumbers files (TooLong file) = file ≤ files
HasFileNumbers files _ = ⊤

-- the same of a form with a further file after these
abbrev pub HasFurtherNumbers : ℕ → Status → Type 0
HasFurtherNumbers files (ReadFault file) = file ≤ files + 1
HasFurtherNumbers files (TooLong file) = file ≤ files + 1
HasFurtherNumbers files refusal = HasFileNumbers files refusal

-- what is answered of a file with this number that was not fetched
abbrev pub IsUnfetched : ℕ → Status → Type 0
IsUnfetched number refusal = (refusal ≡ ReadFault number) ⊎ ((refusal ≡ TooLong number) ⊎ (refusal ≡ NoMemory))

-- no fault is counted: the count stands as it was, and not at its last value
pub record IsFaultless (before now : ℕ) : Type 0 where
  pub kept : now ≡ before
  pub below : now ≢ 2 ^ 64 - 1

-- all is done, or what could not be written whole was written as a prefix
abbrev pub IsWritten : Status → Type 0
IsWritten answer = (answer ≡ Done) ⊎ (answer ≡ WriteFault)
