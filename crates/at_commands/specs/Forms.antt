-- Commands that read a book and the files of the processes, and those that read one further file after these.
use Rattle.std.specs.Prelude.{◌≡◌, ℕ, ◌+◌, ◌≤◌, ◌⊎◌, All, Bool, true, List, length, Option, Result, Ok}
use Rattle.at_commands.specs.Prelude.{AreNamesOf, Call, ClosedTerms, IsBook, NamedBook, Status, Word, and_then, most_file_bytes}
use Rattle.at_commands.specs.Commands.{Promise}
use Rattle.at_commands.specs.Faults.{HasFileNumbers, HasFurtherNumbers, Kind}
use Rattle.at_commands.specs.Faults.Kind.{payments}
use Rattle.at_commands.specs.Loading.{Files, Giving, HoldsFile, IsSpelled, LoadedOf, MayReachOf, PaysBytes, SpelledOf, Spelling, all_loaded, calls_given, fetched, named_book}
use Rattle.at_commands.specs.Words.{Form, FurtherForm}

-- what is so of a book and files that were loaded: it is a book, and there is a file for each of the words, which are as many as the processes.
-- Some bytes spell it
pub record HoldsForm {T : Type 0} (spells : Spelling T) (words : List Word) (l : LoadedOf T) : Type 0 where
  pub book : IsBook l.book
  pub names : AreNamesOf l.book l.names
  pub given : length words ≡ l.book.processes
  pub count : length l.files ≡ length words
  pub known : All (IsSpelled (spells (named_book l.book l.names))) l.files

-- a command's own: what it refuses of what was loaded, and else prints
pub record FormTerms (T : Type 0) : Type 1 where
  pub refuses : LoadedOf T → Status → Type 0
  pub prints : LoadedOf T → Option ClosedTerms → List ℕ → Type 0

-- what such a command promises of a form
abbrev pub form_promise : {T : Type 0} → (NamedBook → Giving T) → Spelling T → Kind → FormTerms T → Form → Promise (LoadedOf T)
form_promise gives spells kind t form = record {
  loaded = λ files. all_loaded gives files form.book form.files;
  spells = λ files l. SpelledOf spells files form.book form.files l;
  holds = HoldsForm spells form.files;
  refuses = t.refuses;
  prints = t.prints;
  kind = kind;
  reaches = λ tells files file. MayReachOf gives tells files form.book form.files file;
  numbers = HasFileNumbers (length form.files);
  unread = ⊥;
}

-- the same of payments
abbrev pub payments_promise : FormTerms Call → Form → Promise (LoadedOf Call)
payments_promise t form = form_promise calls_given PaysBytes payments t form

-- what was loaded, and what the further file holds
pub record FurtherOf (T X : Type 0) : Type 0 where
  pub what : LoadedOf T
  pub further : List X

-- a command's own: what its further file gives beside what was loaded, and spells; what it refuses of both, and else prints
pub record FurtherTerms (T X : Type 0) : Type 1 where
  pub given : LoadedOf T → List ℕ → Result (List X) Status
  pub spells : LoadedOf T → List ℕ → List X → Type 0
  pub refuses : FurtherOf T X → Status → Type 0
  pub prints : FurtherOf T X → Option ClosedTerms → List ℕ → Type 0

-- the number of the further file, which comes after all others
abbrev pub further_number : FurtherForm → ℕ
further_number form = length form.files + 1

-- what the further file holds beside what was loaded, or why it is refused
abbrev pub further_read : {T X : Type 0} → (LoadedOf T → List ℕ → Result (List X) Status) → Files → FurtherForm → LoadedOf T → Result (FurtherOf T X) Status
further_read given files form l =
    and_then (and_then (fetched (files form.further) (further_number form)) (given l)) (λ items. Ok (record { what = l; further = items }))

-- what the files hold, or the first refusal: the further file's comes last
abbrev pub further_loaded : {T X : Type 0} → (NamedBook → Giving T) → (LoadedOf T → List ℕ → Result (List X) Status) → Files → FurtherForm → Result (FurtherOf T X) Status
further_loaded gives given files form = and_then (all_loaded gives files form.book form.files) (further_read given files form)

-- the files spell what was loaded, and the further file what it gave
pub record SpellsFurther {T X : Type 0} (spells : Spelling T) (reads : LoadedOf T → List ℕ → List X → Type 0) (files : Files) (form : FurtherForm) (b : FurtherOf T X) : Type 0 where
  pub before : SpelledOf spells files form.book form.files b.what
  pub bytes : List ℕ
  pub held : HoldsFile files form.further bytes
  pub spelled : reads b.what bytes b.further

-- the file with this number is the further one, and where the files are told all others are good
pub record ReachesFurther {T : Type 0} (gives : NamedBook → Giving T) (tells : Bool) (files : Files) (form : FurtherForm) (file : ℕ) : Type 0 where
  pub named : file ≡ further_number form
  pub reached : tells ≡ true → (l : LoadedOf T) × (all_loaded gives files form.book form.files ≡ Ok l)

-- bytes of a file spell these
pub record IsFurther {X : Type 0} (spells : List ℕ → List X → Type 0) (items : List X) : Type 0 where
  pub bytes : List ℕ
  pub size : length bytes ≤ most_file_bytes
  pub spelled : spells bytes items

-- what is so of what was loaded
pub record HoldsFurther {T X : Type 0} (spells : Spelling T) (reads : LoadedOf T → List ℕ → List X → Type 0) (words : List Word) (b : FurtherOf T X) : Type 0 where
  pub form : HoldsForm spells words b.what
  pub further : IsFurther (reads b.what) b.further

-- what such a command promises of a form
abbrev pub further_promise : {T X : Type 0} → (NamedBook → Giving T) → Spelling T → Kind → FurtherTerms T X → FurtherForm → Promise (FurtherOf T X)
further_promise gives spells kind t form = record {
  loaded = λ files. further_loaded gives t.given files form;
  spells = λ files b. SpellsFurther spells t.spells files form b;
  holds = HoldsFurther spells t.spells form.files;
  refuses = t.refuses;
  prints = t.prints;
  kind = kind;
  reaches = λ tells files file. MayReachOf gives tells files form.book form.files file ⊎ ReachesFurther gives tells files form file;
  numbers = HasFurtherNumbers (length form.files);
  unread = ⊥;
}
