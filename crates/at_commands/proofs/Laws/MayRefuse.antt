-- When a refusal of a part is one of the whole.
use Rattle.std.proofs.Common.{◌≡◌, ◌≢◌, ◌+◌, ◌-◌, ◌^◌, ◌<◌, ◌≤◌, arith, refl, ℕ, Bool, true, Result, Ok, Err, ◌⊎◌, inl, inr}
use Rattle.at_commands.proofs.Prelude.{BookWhy, Location, Status, Usage, BadBook, BadPayments, ReadFault, WriteFault, NoMemory, TooLong, BadSchedule, BadOrder, BadMessages, NotLegal, TooManyOrders, UsageFault, HasFileNumbers, HasFurtherNumbers, IsBrought, IsFaultless, IsUnfetched, IsUnread, Kind, MayRefuseOf, RefusesFile, payments, scheduled, messages, Rose}
use Rattle.at_report.specs.declared.status.Status.TheVariants.{Done}
use Rattle.at_report.specs.declared.status.UsageFault.TheVariants as usage

-- the refusal of an answer
pub refusal_of : {A : Type 0} (answer same : Result A Status) (refusal other : Status) → answer ≡ same → answer ≡ Err refusal → same ≡ Err other → refusal ≡ other
refusal_of answer same refusal other is one two = cc

-- what was made is no refusal, and a refusal of the number of files no read fault
pub made-refused : {A : Type 0} (made : A) (refusal : Status) → Ok made ≡ Err refusal → ⊥
made-refused made refusal is = cc

pub usage-read_fault : {A : Type 0} (fault : UsageFault) (file : ℕ) (same : Result A Status) → same ≡ Err (Usage fault) → same ≡ Err (ReadFault file) → ⊥
usage-read_fault fault file same one two = cc

pub book-read_fault : {A : Type 0} (at : Location) (why : BookWhy) (file : ℕ) (same : Result A Status) → same ≡ Err (BadBook at why) → same ≡ Err (ReadFault file) → ⊥
book-read_fault at why file same one two = cc

pub memory-read_fault : {A : Type 0} (file : ℕ) (same : Result A Status) → same ≡ Err NoMemory → same ≡ Err (ReadFault file) → ⊥
memory-read_fault file same one two = cc

pub long-read_fault : {A : Type 0} (number file : ℕ) (same : Result A Status) → same ≡ Err (TooLong number) → same ≡ Err (ReadFault file) → ⊥
long-read_fault number file same one two = cc

pub read_fault-file : {A : Type 0} (number file : ℕ) (same : Result A Status) → same ≡ Err (ReadFault number) → same ≡ Err (ReadFault file) → file ≡ number
read_fault-file number file same one two = cc

-- counts that never fall
pub later-kept : (first second : ℕ) → second ≡ first → first ≤ second
later-kept first second kept = omega arith

pub later-then : (first second third : ℕ) → first ≤ second → second ≤ third → first ≤ third
later-then first second third one two = omega arith

IsBrought-whole : {A B : Type 0} (tells : Bool) (part : Result A Status) (whole : Result B Status) (before now : ℕ) (refusal : Status)
    → (tells ≡ true → part ≡ Err refusal → whole ≡ Err refusal) → IsBrought tells part before now refusal → IsBrought tells whole before now refusal
IsBrought-whole tells part whole before now refusal leads h = (h.0, λ told. leads told (h.1 told))

IsUnread-whole : {A B : Type 0} (tells : Bool) (part : Result A Status) (whole : Result B Status) (before now : ℕ) (refusal : Status)
    → (tells ≡ true → part ≡ Err refusal → whole ≡ Err refusal) → IsUnread tells part before now refusal → IsUnread tells whole before now refusal
IsUnread-whole tells part whole before now refusal leads (inl rose) = inl rose
IsUnread-whole tells part whole before now refusal leads (inr lacks) = inr (lacks.0, leads lacks.0 lacks.1)

-- a refusal of a part is one of the whole, where it leads to the same refusal of the whole
pub MayRefuse-whole : {A B : Type 0} (kind : Kind) (tells : Bool) (part : Result A Status) (whole : Result B Status) (before now : ℕ) (refusal : Status)
    → (tells ≡ true → part ≡ Err refusal → whole ≡ Err refusal) → MayRefuseOf kind tells part before now refusal → MayRefuseOf kind tells whole before now refusal
MayRefuse-whole kind tells part whole before now NoMemory leads h = h
MayRefuse-whole kind tells part whole before now (ReadFault file) leads h = IsUnread-whole tells part whole before now (ReadFault file) leads h
MayRefuse-whole kind tells part whole before now (Usage (usage.Files wanted given)) leads h = IsBrought-whole tells part whole before now (Usage (usage.Files wanted given)) leads h
MayRefuse-whole kind tells part whole before now (Usage usage.Words) leads h = absurd h
MayRefuse-whole kind tells part whole before now (BadBook at why) leads h = IsBrought-whole tells part whole before now (BadBook at why) leads h
MayRefuse-whole kind tells part whole before now (TooLong file) leads h = IsBrought-whole tells part whole before now (TooLong file) leads h
MayRefuse-whole payments tells part whole before now (BadPayments process at why) leads h = IsBrought-whole tells part whole before now (BadPayments process at why) leads h
MayRefuse-whole scheduled tells part whole before now (BadPayments process at why) leads h = IsBrought-whole tells part whole before now (BadPayments process at why) leads h
MayRefuse-whole messages tells part whole before now (BadPayments process at why) leads h = absurd h
MayRefuse-whole payments tells part whole before now (BadSchedule at why) leads h = absurd h
MayRefuse-whole scheduled tells part whole before now (BadSchedule at why) leads h = IsBrought-whole tells part whole before now (BadSchedule at why) leads h
MayRefuse-whole messages tells part whole before now (BadSchedule at why) leads h = absurd h
MayRefuse-whole payments tells part whole before now (BadOrder at why) leads h = absurd h
MayRefuse-whole scheduled tells part whole before now (BadOrder at why) leads h = absurd h
MayRefuse-whole messages tells part whole before now (BadOrder at why) leads h = IsBrought-whole tells part whole before now (BadOrder at why) leads h
MayRefuse-whole payments tells part whole before now (BadMessages process at why) leads h = absurd h
MayRefuse-whole scheduled tells part whole before now (BadMessages process at why) leads h = absurd h
MayRefuse-whole messages tells part whole before now (BadMessages process at why) leads h =
    IsBrought-whole tells part whole before now (BadMessages process at why) leads h
MayRefuse-whole kind tells part whole before now Done leads h = absurd h
MayRefuse-whole kind tells part whole before now WriteFault leads h = absurd h
MayRefuse-whole kind tells part whole before now (NotLegal line expected) leads h = absurd h
MayRefuse-whole kind tells part whole before now TooManyOrders leads h = absurd h

-- a refusal of a process's file is one of loading
pub MayRefuse-file : {A B : Type 0} (kind : Kind) (tells : Bool) (given : Result A Status) (whole : Result B Status) (process before now : ℕ) (refusal : Status)
    → now ≡ before → (tells ≡ true → given ≡ Err refusal → whole ≡ Err refusal) → RefusesFile kind given process refusal → MayRefuseOf kind tells whole before now refusal
MayRefuse-file kind tells given whole process before now NoMemory kept leads h = h
MayRefuse-file payments tells given whole process before now (BadPayments p at why) kept leads h = (kept, λ told. leads told h.1)
MayRefuse-file scheduled tells given whole process before now (BadPayments p at why) kept leads h = (kept, λ told. leads told h.1)
MayRefuse-file messages tells given whole process before now (BadMessages p at why) kept leads h = (kept, λ told. leads told h.1)
MayRefuse-file payments tells given whole process before now (BadMessages p at why) kept leads h = absurd h
MayRefuse-file scheduled tells given whole process before now (BadMessages p at why) kept leads h = absurd h
MayRefuse-file messages tells given whole process before now (BadPayments p at why) kept leads h = absurd h
MayRefuse-file kind tells given whole process before now (ReadFault file) kept leads h = absurd h
MayRefuse-file kind tells given whole process before now (Usage (usage.Files wanted given_files)) kept leads h = absurd h
MayRefuse-file kind tells given whole process before now (Usage usage.Words) kept leads h = absurd h
MayRefuse-file kind tells given whole process before now (BadBook at why) kept leads h = absurd h
MayRefuse-file kind tells given whole process before now (TooLong file) kept leads h = absurd h
MayRefuse-file kind tells given whole process before now Done kept leads h = absurd h
MayRefuse-file kind tells given whole process before now WriteFault kept leads h = absurd h
MayRefuse-file kind tells given whole process before now (BadSchedule at why) kept leads h = absurd h
MayRefuse-file kind tells given whole process before now (BadOrder at why) kept leads h = absurd h
MayRefuse-file kind tells given whole process before now (NotLegal line expected) kept leads h = absurd h
MayRefuse-file kind tells given whole process before now TooManyOrders kept leads h = absurd h

-- the numbers of a refusal before the further file, and of a further file that was not fetched
pub HasFurtherNumbers-loading : (files : ℕ) (refusal : Status) → HasFileNumbers files refusal → HasFurtherNumbers files refusal
HasFurtherNumbers-loading files (ReadFault file) h = omega arith
HasFurtherNumbers-loading files (TooLong file) h = omega arith
HasFurtherNumbers-loading files refusal h = h

pub HasFurtherNumbers-unfetched : (files number : ℕ) (refusal : Status) → number ≤ files + 1 → IsUnfetched number refusal → HasFurtherNumbers files refusal
HasFurtherNumbers-unfetched files number refusal is (inl read) = rw read (omega arith)
HasFurtherNumbers-unfetched files number refusal is (inr (inl long)) = rw long (omega arith)
HasFurtherNumbers-unfetched files number refusal is (inr (inr none)) = rw none tt

-- no fault is counted where the count stands as it was, below its last value
pub IsFaultless-kept : (before now : ℕ) → now ≡ before → now < 2 ^ 64 - 1 → IsFaultless before now
IsFaultless-kept before now kept below = record { kept = kept; below = λ last. omega (arith, below, last) }

-- a count that rose isn't faultless
pub Rose-IsFaultless : (before now : ℕ) → IsFaultless before now → Rose before now → ⊥
Rose-IsFaultless before now faultless (inl above) = let kept = faultless.kept in omega arith
Rose-IsFaultless before now faultless (inr last) = faultless.below last

IsBrought-loaded : {A : Type 0} (tells : Bool) (expected : Result A Status) (l : A) (before now : ℕ) (refusal : Status)
    → tells ≡ true → expected ≡ Ok l → IsBrought tells expected before now refusal → ⊥
IsBrought-loaded tells expected l before now refusal told is brought = let wrong = brought.1 told in cc

IsUnread-loaded : {A : Type 0} (tells : Bool) (expected : Result A Status) (l : A) (before now : ℕ) (refusal : Status)
    → expected ≡ Ok l → IsFaultless before now → IsUnread tells expected before now refusal → ⊥
IsUnread-loaded tells expected l before now refusal is faultless (inl rose) = Rose-IsFaultless before now faultless rose
IsUnread-loaded tells expected l before now refusal is faultless (inr lacks) = let wrong = lacks.1 in cc

-- where all files are loaded and no fault is counted, nothing is refused but for want of memory
pub MayRefuse-loaded : {A : Type 0} (kind : Kind) (tells : Bool) (expected : Result A Status) (l : A) (before now out_before out_now : ℕ) (answer : Status)
    → tells ≡ true → expected ≡ Ok l → IsFaultless before now → IsFaultless out_before out_now
    → (answer ≡ WriteFault → Rose out_before out_now) → (answer ≢ Done → answer ≢ WriteFault → MayRefuseOf kind tells expected before now answer)
    → (answer ≡ Done) ⊎ (answer ≡ NoMemory)
MayRefuse-loaded kind tells expected l before now out_before out_now Done told is shelf out writes refuses = inl refl
MayRefuse-loaded kind tells expected l before now out_before out_now NoMemory told is shelf out writes refuses = inr refl
MayRefuse-loaded kind tells expected l before now out_before out_now WriteFault told is shelf out writes refuses =
    absurd (Rose-IsFaultless out_before out_now out (writes refl))
MayRefuse-loaded kind tells expected l before now out_before out_now (ReadFault file) told is shelf out writes refuses =
    absurd (IsUnread-loaded tells expected l before now (ReadFault file) is shelf (refuses (λ e. cc) (λ e. cc)))
MayRefuse-loaded kind tells expected l before now out_before out_now (Usage (usage.Files wanted given)) told is shelf out writes refuses =
    absurd (IsBrought-loaded tells expected l before now (Usage (usage.Files wanted given)) told is (refuses (λ e. cc) (λ e. cc)))
MayRefuse-loaded kind tells expected l before now out_before out_now (Usage usage.Words) told is shelf out writes refuses = absurd (refuses (λ e. cc) (λ e. cc))
MayRefuse-loaded kind tells expected l before now out_before out_now (BadBook at why) told is shelf out writes refuses =
    absurd (IsBrought-loaded tells expected l before now (BadBook at why) told is (refuses (λ e. cc) (λ e. cc)))
MayRefuse-loaded kind tells expected l before now out_before out_now (TooLong file) told is shelf out writes refuses =
    absurd (IsBrought-loaded tells expected l before now (TooLong file) told is (refuses (λ e. cc) (λ e. cc)))
MayRefuse-loaded payments tells expected l before now out_before out_now (BadPayments process at why) told is shelf out writes refuses =
    absurd (IsBrought-loaded tells expected l before now (BadPayments process at why) told is (refuses (λ e. cc) (λ e. cc)))
MayRefuse-loaded scheduled tells expected l before now out_before out_now (BadPayments process at why) told is shelf out writes refuses =
    absurd (IsBrought-loaded tells expected l before now (BadPayments process at why) told is (refuses (λ e. cc) (λ e. cc)))
MayRefuse-loaded messages tells expected l before now out_before out_now (BadPayments process at why) told is shelf out writes refuses = absurd (refuses (λ e. cc) (λ e. cc))
MayRefuse-loaded payments tells expected l before now out_before out_now (BadSchedule at why) told is shelf out writes refuses = absurd (refuses (λ e. cc) (λ e. cc))
MayRefuse-loaded scheduled tells expected l before now out_before out_now (BadSchedule at why) told is shelf out writes refuses =
    absurd (IsBrought-loaded tells expected l before now (BadSchedule at why) told is (refuses (λ e. cc) (λ e. cc)))
MayRefuse-loaded messages tells expected l before now out_before out_now (BadSchedule at why) told is shelf out writes refuses = absurd (refuses (λ e. cc) (λ e. cc))
MayRefuse-loaded payments tells expected l before now out_before out_now (BadOrder at why) told is shelf out writes refuses = absurd (refuses (λ e. cc) (λ e. cc))
MayRefuse-loaded scheduled tells expected l before now out_before out_now (BadOrder at why) told is shelf out writes refuses = absurd (refuses (λ e. cc) (λ e. cc))
MayRefuse-loaded messages tells expected l before now out_before out_now (BadOrder at why) told is shelf out writes refuses =
    absurd (IsBrought-loaded tells expected l before now (BadOrder at why) told is (refuses (λ e. cc) (λ e. cc)))
MayRefuse-loaded payments tells expected l before now out_before out_now (BadMessages process at why) told is shelf out writes refuses = absurd (refuses (λ e. cc) (λ e. cc))
MayRefuse-loaded scheduled tells expected l before now out_before out_now (BadMessages process at why) told is shelf out writes refuses = absurd (refuses (λ e. cc) (λ e. cc))
MayRefuse-loaded messages tells expected l before now out_before out_now (BadMessages process at why) told is shelf out writes refuses =
    absurd (IsBrought-loaded tells expected l before now (BadMessages process at why) told is (refuses (λ e. cc) (λ e. cc)))
MayRefuse-loaded kind tells expected l before now out_before out_now (NotLegal line line_expected) told is shelf out writes refuses = absurd (refuses (λ e. cc) (λ e. cc))
MayRefuse-loaded kind tells expected l before now out_before out_now TooManyOrders told is shelf out writes refuses = absurd (refuses (λ e. cc) (λ e. cc))

-- the numbers of a refusal of a process's file
pub HasFileNumbers-file : {A : Type 0} (kind : Kind) (given : Result A Status) (process files : ℕ) (refusal : Status) → process < files → RefusesFile kind given process refusal → HasFileNumbers files refusal
HasFileNumbers-file kind given process files NoMemory below h = tt
HasFileNumbers-file payments given process files (BadPayments p at why) below h = rw h.0 below
HasFileNumbers-file scheduled given process files (BadPayments p at why) below h = rw h.0 below
HasFileNumbers-file messages given process files (BadMessages p at why) below h = rw h.0 below
HasFileNumbers-file payments given process files (BadMessages p at why) below h = absurd h
HasFileNumbers-file scheduled given process files (BadMessages p at why) below h = absurd h
HasFileNumbers-file messages given process files (BadPayments p at why) below h = absurd h
HasFileNumbers-file kind given process files (ReadFault file) below h = absurd h
HasFileNumbers-file kind given process files (Usage (usage.Files wanted given_files)) below h = absurd h
HasFileNumbers-file kind given process files (Usage usage.Words) below h = tt
HasFileNumbers-file kind given process files (BadBook at why) below h = tt
HasFileNumbers-file kind given process files (TooLong file) below h = absurd h
HasFileNumbers-file kind given process files Done below h = tt
HasFileNumbers-file kind given process files WriteFault below h = tt
HasFileNumbers-file kind given process files (BadSchedule at why) below h = tt
HasFileNumbers-file kind given process files (BadOrder at why) below h = tt
HasFileNumbers-file kind given process files (NotLegal line expected) below h = tt
HasFileNumbers-file kind given process files TooManyOrders below h = tt
