-- What a command promises of its words, and what it leaves: one record for every command.
use Rattle.std.specs.Prelude.{◌≡◌, ◌≢◌, ◌⊎◌, ℕ, ⊤, Bool, true, List, Option, Some, None, Result, Ok, Err}
use Rattle.at_commands.specs.Prelude.{ClosedTerms, Done, NoMemory, NotLegal, ReadFault, Status, TooManyOrders, Usage, Words, WriteFault}
use Rattle.at_commands.specs.Faults.{IsFaultless, IsWritten, Kind, MayRefuseOf}
use Rattle.at_commands.specs.Faults.Kind.{payments}
use Rattle.at_commands.specs.Loading.{Files}
use Rattle.at_commands.specs.Outcome.{Found, Outcome}
use Rattle.at_commands.specs.Writing.{Wrote}

-- what a command promises of words that it was given, whose files hold a W
pub record Promise (W : Type 0) : Type 1 where
  -- what these files hold, or the first refusal
  pub loaded : Files → Result W Status
  -- the bytes of these files spell it
  pub spells : Files → W → Type 0
  -- this is so of all that is loaded, also where the files aren't told
  pub holds : W → Type 0
  -- it is refused so, by this command alone
  pub refuses : W → Status → Type 0
  -- this closed ledger is kept, if one is, and this text is printed
  pub prints : W → Option ClosedTerms → List ℕ → Type 0
  -- what the files of the processes are read as
  pub kind : Kind
  -- whether the files are told, the files, and the number of one that is reached
  pub reaches : Bool → Files → ℕ → Type 0
  -- the numbers in such an answer are those of these words
  pub numbers : Status → Type 0
  -- it reads no file
  pub unread : Type 0

-- nothing is refused besides
abbrev pub Never : {W : Type 0} → W → Status → Type 0
Never w refusal = ⊥

-- a text, and no closed ledger is kept
abbrev pub KeepingNone : {W : Type 0} → (W → List ℕ → Type 0) → W → Option ClosedTerms → List ℕ → Type 0
KeepingNone prints w kept text = (kept ≡ None) × prints w text

-- a text of the closed ledger that is kept
abbrev pub KeepingClosed : {W : Type 0} → (W → ClosedTerms → List ℕ → Type 0) → W → Option ClosedTerms → List ℕ → Type 0
KeepingClosed prints w kept text = (closed : ClosedTerms) × (kept ≡ Some closed) × prints w closed text

-- what a command promises that reads no file
abbrev pub unread_promise : (Option ClosedTerms → List ℕ → Type 0) → Promise ⊤
unread_promise prints = record {
  loaded = λ files. Ok tt;
  spells = λ files w. ⊤;
  holds = λ w. ⊤;
  refuses = Never;
  prints = λ w. prints;
  kind = payments;
  reaches = λ tells files file. ⊥;
  numbers = λ answer. (answer ≡ Done) ⊎ ((answer ≡ WriteFault) ⊎ (answer ≡ NoMemory));
  unread = ⊤;
}

-- whatever is printed, no closed ledger is kept
abbrev pub KeepsNone : {W : Type 0} → Promise W → Type 0
KeepsNone {W} P = (w : W) (kept : Option ClosedTerms) (text : List ℕ) → P.prints w kept text → kept ≡ None

-- a refusal that only some command has, of what was loaded. A report that isn't legal, or too many orders
abbrev pub IsOwn : Status → Type 0
IsOwn (NotLegal line expected) = ⊤
IsOwn TooManyOrders = ⊤
IsOwn _ = ⊥

-- what was loaded is refused so besides
abbrev pub Refuses : {W : Type 0} → Promise W → W → Status → Type 0
Refuses P w refusal = IsOwn refusal × P.refuses w refusal

-- this was loaded: no fault was counted, and where the files are told they spell it
pub record WasLoaded {W : Type 0} (P : Promise W) (s : Found) (w : W) : Type 0 where
  pub faultless : s.faults_now ≡ s.faults
  pub holds : P.holds w
  pub spelled : s.tells ≡ true → P.spells s.files w

-- something was loaded of which this is so, and where the files are told, they hold it
pub record IsLoadedSo {W : Type 0} (P : Promise W) (s : Found) (is_so : W → Type 0) : Type 0 where
  pub what : W
  pub read : s.tells ≡ true → P.loaded s.files ≡ Ok what
  pub loads : WasLoaded P s what
  pub so : is_so what

-- the text is printed of something that was loaded
abbrev pub PrintsLoaded : {W : Type 0} → Promise W → Found → Option ClosedTerms → List ℕ → Type 0
PrintsLoaded P s kept text = IsLoadedSo P s (λ w. P.prints w kept text)

-- such a text was written: all of it under `Done`, and a prefix under a write fault
pub record WroteLoaded {W : Type 0} (P : Promise W) (s : Found) (o : Outcome) : Type 0 where
  pub text : List ℕ
  pub printed : PrintsLoaded P s o.kept text
  pub wrote : Wrote o.tells text o.before o.after o.faults o.faults_now o.answer

-- when loading may be refused so
abbrev pub MayFailToLoad : {W : Type 0} → Promise W → Found → Status → Type 0
MayFailToLoad P s refusal = MayRefuseOf P.kind s.tells (P.loaded s.files) s.faults s.faults_now refusal

-- when a command may be refused so: as loading may, or for something that was loaded
abbrev pub MayRefuseBy : {W : Type 0} → Promise W → Found → Status → Type 0
MayRefuseBy P s refusal = MayFailToLoad P s refusal ⊎ IsLoadedSo P s (λ w. Refuses P w refusal)

-- want of memory, or a refusal that only some command has
abbrev pub IsOwnOrMemory : (Status → Type 0) → Status → Type 0
IsOwnOrMemory refuses refusal = (refusal ≡ NoMemory) ⊎ (IsOwn refusal × refuses refusal)

-- what was loaded may be refused so
abbrev pub RefusesMade : {W : Type 0} → Promise W → W → Status → Type 0
RefusesMade P w = IsOwnOrMemory (P.refuses w)

-- what is answered where no fault of the shelf is counted
abbrev pub AnswersBy : {W : Type 0} → Promise W → Result W Status → Status → Type 0
AnswersBy P (Err refusal) answer = answer ≡ refusal
AnswersBy P (Ok w) answer = Refuses P w answer ⊎ IsWritten answer

-- What a command leaves. Under `Done` and a write fault its text of what was loaded was written, and that is what the files' bytes spell where
-- the shelf tells them; the text is of the closed ledger that is kept, if one is (`written`). Where the files spell something, and no fault is
-- counted, all is done but for want of memory and refusals of it (`complete`). A refusal comes only so (`refusal`), and where no fault is
-- counted exactly so, but for want of memory (`exact`). It carries these numbers (`numbered`), and a file that couldn't be read is one that was
-- reached (`reached`)
pub record Answered {W : Type 0} (P : Promise W) (s : Found) (o : Outcome) : Type 0 where
  pub written : IsWritten o.answer → WroteLoaded P s o
  pub complete : (w : W) → s.tells ≡ true → P.spells s.files w → IsFaultless s.faults s.faults_now → IsFaultless o.faults o.faults_now
      → (o.answer ≡ Done) ⊎ RefusesMade P w o.answer
  pub refusal : o.answer ≢ Done → o.answer ≢ WriteFault → MayRefuseBy P s o.answer
  pub exact : s.tells ≡ true → IsFaultless s.faults s.faults_now → (o.answer ≡ NoMemory) ⊎ AnswersBy P (P.loaded s.files) o.answer
  pub reached : (file : ℕ) → o.answer ≡ ReadFault file → P.reaches s.tells s.files file
  pub numbered : P.numbers o.answer
  pub formed : o.answer ≢ Usage Words
