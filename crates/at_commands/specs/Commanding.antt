-- How a command comes to what it leaves: what each part of it has to do.
use Rattle.std.specs.Prelude.{◌≡◌, ◌≢◌, ◌≤◌, ℕ, All, Bool, List, length, Option, Result, Ok}
use Rattle.std.specs.Result.{IfErr, IfOk}
use Rattle.at_commands.specs.Prelude.{AreNamesOf, ClosedTerms, Done, IsBook, NamedBook, NoMemory, ReadFault, SameFiles, Status, Word, WriteFault, contents_of}
use Rattle.at_commands.specs.Commands.{Answered, IsOwnOrMemory, MayFailToLoad, MayRefuseBy, Promise, Refuses, RefusesMade}
use Rattle.at_commands.specs.Faults.{HasFurtherNumbers, Kind, MayRefuseOf}
use Rattle.at_commands.specs.Forms.{FormTerms, FurtherTerms}
use Rattle.at_commands.specs.Loading.{Files, Giving, IsSpelled, LoadedOf, SpelledOf, Spelling, named_book}
use Rattle.at_commands.specs.Outcome.{Found, found, outcome}
use Rattle.at_commands.specs.declared.ending.Printed.{Printed}
use Rattle.at_commands.specs.declared.loading.Loaded as program

-- what a promise has to keep to: what files spell is loaded, and these answers carry no wrong number
pub record IsLawful {W : Type 0} (P : Promise W) : Type 0 where
  pub spelled : (files : Files) (w : W) → P.spells files w → P.loaded files ≡ Ok w
  pub own : (w : W) (refusal : Status) → Refuses P w refusal → P.numbers refusal
  pub done : P.numbers Done
  pub written : P.numbers WriteFault
  pub memory : P.numbers NoMemory

-- what is so of a refusal that may come so
pub record IsRefusedAs {W : Type 0} (P : Promise W) (s : Found) (may_be : Status → Type 0) (refusal : Status) : Type 0 where
  pub may : may_be refusal
  pub reached : (file : ℕ) → refusal ≡ ReadFault file → P.reaches s.tells s.files file
  pub numbered : P.numbers refusal

-- loading was refused so
abbrev pub FailedToLoad : {W : Type 0} → Promise W → Found → Status → Type 0
FailedToLoad P s refusal = IsRefusedAs P s (MayFailToLoad P s) refusal

-- a command came to this refusal
abbrev pub CameToRefusal : {W : Type 0} → Promise W → Found → Status → Type 0
CameToRefusal P s refusal = IsRefusedAs P s (MayRefuseBy P s) refusal

-- this was made of what was loaded: its text, or a refusal of it
abbrev pub MakesText : {W : Type 0} → Promise W → W → Result Printed Status → Type 0
MakesText P w made = IfOk made (λ p. P.prints w p.closed p.text) × IfErr made (RefusesMade P w)

-- a shelf holds and tells the files that it did, and its faults never fall
pub record KeepsFiles {S : Type 0} (tells : S → Bool) (file : S → Files) (faults : S → ℕ) (before after : S) : Type 0 where
  pub files : SameFiles (tells before) (tells after) (file before) (file after)
  pub later : faults before ≤ faults after

-- what a command does to a shelf and an output: it keeps the files, reads none where it promises so, and under a refusal it leaves the output
-- and what is kept as they were
pub record Does {W S O : Type 0} (P : Promise W) (tells : S → Bool) (file : S → Files) (faults : S → ℕ) (out_tells : O → Bool) (taken : O → List ℕ)
    (out_faults : O → ℕ) (shelf shelf_now : S) (out out_now : O) (kept kept_now : Option ClosedTerms) (answer : Status) : Type 0 where
  pub keeps : KeepsFiles tells file faults shelf shelf_now
  pub unread : P.unread → shelf_now ≡ shelf
  pub later : out_faults out ≤ out_faults out_now
  pub as_told : out_tells out_now ≡ out_tells out
  pub answered : Answered P (found tells file faults shelf shelf_now) (outcome out_tells taken out_faults out out_now kept_now answer)
  pub untouched : answer ≢ Done → answer ≢ WriteFault → (out_now ≡ out) × (kept_now ≡ kept)

-- this was made of a book and files: its text, or a refusal of them
abbrev pub MakesForm : {T : Type 0} → FormTerms T → LoadedOf T → Result Printed Status → Type 0
MakesForm t l made =
    IfOk made (λ p. t.prints l p.closed p.text) × IfErr made (IsOwnOrMemory (t.refuses l))

-- bytes that spell something beside a book give it
abbrev pub Accepts : {T : Type 0} → Spelling T → (NamedBook → Giving T) → Type 0
Accepts {T} spells given =
    (b : NamedBook) (process : ℕ) (bytes : List ℕ) (items : List T) → IsBook b.book → AreNamesOf b.book b.names → spells b process bytes items → given b process bytes ≡ Ok items

-- what the files and the further file spell is read of them
pub record AreRead {T X : Type 0} (gives : NamedBook → Giving T) (spells : Spelling T) (t : FurtherTerms T X) : Type 0 where
  pub accepts : Accepts spells gives
  pub read : (files : Files) (book : Word) (words : List Word) (l : LoadedOf T) (bytes : List ℕ) (items : List X) → SpelledOf spells files book words l
      → t.spells l bytes items → t.given l bytes ≡ Ok items

-- what is so of what was loaded, as the program holds it
pub record IsLoadedForm {T : Type 0} (spells : Spelling T) (l : program.Loaded T) : Type 0 where
  pub names : AreNamesOf l.book l.names
  pub count : length l.files.items ≡ l.book.processes
  pub known : All (IsSpelled (spells (named_book l.book l.names))) (contents_of l.files.items)

-- what the further file's bytes may be refused as
pub record RefusesFurther {A : Type 0} (kind : Kind) (expected : Result A Status) (refusal : Status) : Type 0 where
  pub may : (tells : Bool) (faults : ℕ) → MayRefuseOf kind tells expected faults faults refusal
  pub read : (file : ℕ) → refusal ≡ ReadFault file → ⊥
  pub numbered : (files : ℕ) → HasFurtherNumbers files refusal
