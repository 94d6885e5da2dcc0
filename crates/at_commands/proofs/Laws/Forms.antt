-- What forms promise: a book and files, and one further file beside them.
use Rattle.std.proofs.Common.{◌≡◌, ℕ, All, List, length, Result, Ok, Err, refl}
use Rattle.at_commands.proofs.Prelude.{Call, NamedBook, Status, NotLegal, TooManyOrders, HasFileNumbers, HasFurtherNumbers, IsPlayable, Kind, PaysBytes, contents_of, named_book}
use Rattle.at_commands.specs.Answer.{check_promise}
use Rattle.at_commands.specs.Commands.{IsOwn}
use Rattle.at_commands.specs.Commanding.{Accepts, AreRead, IsLawful, IsLoadedForm}
use Rattle.at_commands.specs.Forms.{FormTerms, FurtherTerms, form_promise, further_loaded, further_number, further_promise}
use Rattle.at_commands.specs.Loading.{Files, Giving, LoadedOf, Spelling, all_loaded, fetched}
use Rattle.at_commands.specs.Words.{Form, FurtherForm}
use Rattle.at_commands.specs.declared.loading.Loaded as program
use Rattle.at_commands.proofs.Laws.SpelledLoaded.{IsPlayable-each, all_loaded-SpelledOf, fetched-HoldsFile, loaded-Spelled}

-- calls that were loaded can be played
pub IsPlayable-loaded : (l : program.Loaded Call) → IsLoadedForm PaysBytes l → All (IsPlayable (length l.book.accounts)) (contents_of l.files.items)
IsPlayable-loaded l loads = IsPlayable-each (named_book l.book l.names) (contents_of l.files.items) loads.known

-- a refusal of its own carries no number of a file
IsOwn-numbers : (files : ℕ) (refusal : Status) → IsOwn refusal → HasFileNumbers files refusal
IsOwn-numbers files (NotLegal line expected) own = tt
IsOwn-numbers files TooManyOrders own = tt
IsOwn-numbers files refusal own = absurd own

IsOwn-further : (files : ℕ) (refusal : Status) → IsOwn refusal → HasFurtherNumbers files refusal
IsOwn-further files (NotLegal line expected) own = tt
IsOwn-further files TooManyOrders own = tt
IsOwn-further files refusal own = absurd own

pub form_promise-lawful : {T : Type 0} (gives : NamedBook → Giving T) (spells : Spelling T) (kind : Kind) (t : FormTerms T) (form : Form) → Accepts spells gives
    → IsLawful (form_promise gives spells kind t form)
form_promise-lawful gives spells kind t form accepts = record {
  spelled = λ files l is. all_loaded-SpelledOf spells gives files form.book form.files l accepts is;
  own = λ l refusal own. IsOwn-numbers (length form.files) refusal own.0;
  done = tt;
  written = tt;
  memory = tt;
}

-- what the files spell is counted
pub check_promise-lawful : (form : Form) → IsLawful (check_promise form)
check_promise-lawful form = record {
  spelled = λ files c is. rw (loaded-Spelled files form is.what is.so, is.is) refl;
  own = λ c refusal own. absurd own.1;
  done = tt;
  written = tt;
  memory = tt;
}

-- the further file isn't there, or is refused
pub further-unfetched : {T X : Type 0} (gives : NamedBook → Giving T) (given : LoadedOf T → List ℕ → Result (List X) Status) (files : Files) (form : FurtherForm)
    (l : LoadedOf T) (refusal : Status) (number : ℕ) → number ≡ further_number form → all_loaded gives files form.book form.files ≡ Ok l
    → fetched (files form.further) number ≡ Err refusal → further_loaded gives given files form ≡ Err refusal
further-unfetched gives given files form l refusal number last is refused =
    let there : fetched (files form.further) (further_number form) ≡ Err refusal = rw (← last) refused in
    rw (is, there) refl

pub further-unread : {T X : Type 0} (gives : NamedBook → Giving T) (given : LoadedOf T → List ℕ → Result (List X) Status) (files : Files) (form : FurtherForm)
    (l : LoadedOf T) (bytes : List ℕ) (refusal : Status) (number : ℕ) → number ≡ further_number form → all_loaded gives files form.book form.files ≡ Ok l
    → fetched (files form.further) number ≡ Ok bytes → given l bytes ≡ Err refusal → further_loaded gives given files form ≡ Err refusal
further-unread gives given files form l bytes refusal number last is held bad =
    let there : fetched (files form.further) (further_number form) ≡ Ok bytes = rw (← last) held in
    rw (is, there, bad) refl

pub further_promise-lawful : {T X : Type 0} (gives : NamedBook → Giving T) (spells : Spelling T) (kind : Kind) (t : FurtherTerms T X) (form : FurtherForm)
    → AreRead gives spells t → IsLawful (further_promise gives spells kind t form)
further_promise-lawful gives spells kind t form law = record {
  spelled = λ files b is.
      let loads = all_loaded-SpelledOf spells gives files form.book form.files b.what law.accepts is.before in
      let there = fetched-HoldsFile files form.further is.bytes (further_number form) is.held in
      let read = law.read files form.book form.files b.what is.bytes b.further is.before is.spelled in
      rw (loads, there, read) refl;
  own = λ b refusal own. IsOwn-further (length form.files) refusal own.0;
  done = tt;
  written = tt;
  memory = tt;
}
