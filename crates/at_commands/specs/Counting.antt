-- What is read where the calls are counted, and not kept.
use Rattle.std.specs.Prelude.{◌≡◌, ℕ, ◌≤◌, Bool, true, List, [], ◌∷◌, Ok, length, sum_by}
use Rattle.at_commands.specs.Prelude.{NamedBook, and_then, BookTerms, Call, most_calls}
use Rattle.at_commands.specs.Forms.{HoldsForm}
use Rattle.at_commands.specs.Words.{Form}
use Rattle.at_commands.specs.Loading.{Files, Giving, Loaded, PaysBytes, Spelled, Spelling, calls_given, loaded}

-- how many calls there are, as the one thing that a file gives
abbrev pub call_count : List Call → List ℕ
call_count calls = length calls ∷ []

-- a file gave the number of its calls, which aren't too many
pub record IsCount (given : List ℕ) : Type 0 where
  pub number : ℕ
  pub one : given ≡ number ∷ []
  pub few : number ≤ most_calls

-- what a payment file's bytes give, counted
abbrev pub counted_given : NamedBook → Giving ℕ
counted_given b process bytes = and_then (calls_given b process bytes) (λ calls. Ok (call_count calls))

-- the bytes spell so many calls
abbrev pub CountsBytes : Spelling ℕ
CountsBytes b process bytes given = (calls : List Call) × PaysBytes b process bytes calls × (given ≡ call_count calls)

-- the book and so many calls are those of what was read of the words' files. Where the files are told, their bytes spell it
pub record CountsRead (tells : Bool) (files : Files) (form : Form) (book : BookTerms) (calls : ℕ) : Type 0 where
  pub what : Loaded
  pub book_is : what.book ≡ book
  pub calls_are : calls ≡ sum_by length what.files
  pub holds : HoldsForm PaysBytes form.files what
  pub read : tells ≡ true → loaded files form ≡ Ok what
  pub spelled : tells ≡ true → Spelled files form what
