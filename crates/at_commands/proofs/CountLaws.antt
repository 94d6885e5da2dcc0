-- Files whose calls are counted, and not kept.
use Rattle.std.proofs.Common.{◌≡◌, ◌∙◌, ℕ, ◌+◌, ◌<◌, zero, suc, Bool, true, false, List, [], ◌∷◌, length, map, sum, sum_by, Vec, get_or, take, ◌==◌, Result, Ok, Err, All, refl, sym, ap, arith, if◌then◌else◌}
use Rattle.at_commands.proofs.Prelude.{All-cons, All-nil, AreNamesOf, Global, length-map, sum_by-cons, sum_by_more, NamedBook, and_then, Call, contents_of, get_or-contents_of, length-contents_of, Word, Status, Usage, CountsBytes, CountsRead, IsCount, call_count, counted_given, MayRefuse, payments, EachSpells, IsReached, IsSpelled, Loaded, LoadedOf, MayReach, MayReachOf, PaysBytes, SpellsFile, SpelledOf, all_loaded, book_loaded, calls_given, fetched, file_first, file_loaded, files_beside, files_loaded, loaded, named_book, with_book, Form}
use Rattle.at_ledger.specs.Book.{IsBook}
use Rattle.at_commands.specs.Loading.{Files}
use Rattle.at_report.specs.declared.status.UsageFault.TheVariants as usage
use Rattle.at_commands.proofs.Laws.MayRefuse.{MayRefuse-whole}
use Rattle.at_commands.proofs.Laws.SpelledLoaded.{loaded-Spelled}

-- what a result that was changed comes of
Ok-and_then : {A B E : Type 0} (r : Result A E) (f : A → B) (y : B) → and_then r (λ x. Ok (f x)) ≡ Ok y → (x : A) × (r ≡ Ok x)
Ok-and_then (Ok x) f y is = (x, refl)
Ok-and_then (Err refusal) f y is = absurd (cc)

Err-and_then : {A B E : Type 0} (r : Result A E) (f : A → B) (refusal : E) → and_then r (λ x. Ok (f x)) ≡ Err refusal → r ≡ Err refusal
Err-and_then (Ok x) f refusal is = absurd (cc)
Err-and_then (Err other) f refusal is = cc

-- a file's calls, counted once they were fetched
fetched-counted : (fetch : Result (List ℕ) Status) (given : List ℕ → Result (List Call) Status)
    → and_then fetch (λ bytes. and_then (given bytes) (λ calls. Ok (call_count calls))) ≡ and_then (and_then fetch given) (λ calls. Ok (call_count calls))
fetched-counted (Ok bytes) given = refl
fetched-counted (Err refusal) given = refl

-- the first file counted, and then the others
file_first-counted : (first : Result (List Call) Status) (rest : Result (List (List Call)) Status)
    → and_then (and_then first (λ calls. Ok (call_count calls))) (λ items. file_first items (and_then rest (λ all. Ok (map call_count all))))
    ≡ and_then (and_then first (λ calls. file_first calls rest)) (λ all. Ok (map call_count all))
file_first-counted (Ok calls) (Ok all) = refl
file_first-counted (Ok calls) (Err refusal) = refl
file_first-counted (Err refusal) rest = refl

files_loaded-counted : (b : NamedBook) (files : Files) (process : ℕ) (words : List Word)
    → files_loaded (counted_given b) files process words ≡ and_then (files_loaded (calls_given b) files process words) (λ all. Ok (map call_count all))
unfolding files_loaded
files_loaded-counted b files process [] = refl
files_loaded-counted b files process (name ∷ words) =
    rw (files_loaded-counted b files (process + 1) words, fetched-counted (fetched (files name) (process + 1)) (calls_given b process))
    (file_first-counted (file_loaded (calls_given b) files process name) (files_loaded (calls_given b) files (process + 1) words))

-- what was loaded, counted
abbrev counted_loaded : Loaded → LoadedOf ℕ
counted_loaded l = record { book = l.book; names = l.names; files = map call_count l.files }

with_book-counted : (enough : Bool) (b : NamedBook) (refusal : Status) (rest : Result (List (List Call)) Status)
    → (if enough then with_book b (and_then rest (λ all. Ok (map call_count all))) else Err refusal)
    ≡ and_then (if enough then with_book b rest else Err refusal) (λ l. Ok (counted_loaded l))
with_book-counted true b refusal (Ok all) = refl
with_book-counted true b refusal (Err other) = refl
with_book-counted false b refusal rest = refl

files_beside-counted : (read : Result NamedBook Status) (files : Files) (words : List Word)
    → and_then read (λ b. files_beside counted_given files words b) ≡ and_then (and_then read (λ b. files_beside calls_given files words b)) (λ l. Ok (counted_loaded l))
files_beside-counted (Ok b) files words =
    rw (files_loaded-counted b files 0 words)
    (with_book-counted (length words == b.book.processes) b (Usage (usage.Files b.book.processes (length words))) (files_loaded (calls_given b) files 0 words))
files_beside-counted (Err refusal) files words = refl

all_loaded-counted : (files : Files) (form : Form)
    → all_loaded counted_given files form.book form.files ≡ and_then (loaded files form) (λ l. Ok (counted_loaded l))
all_loaded-counted files form = files_beside-counted (book_loaded files form.book) files form.files

-- a refusal of files that are counted is one of those that are loaded
pub MayRefuse-counted : (tells : Bool) (files : Files) (form : Form) (before now : ℕ) (refusal : Status)
    → MayRefuse tells (all_loaded counted_given files form.book form.files) before now refusal → MayRefuse tells (loaded files form) before now refusal
MayRefuse-counted tells files form before now refusal may =
    MayRefuse-whole payments tells (all_loaded counted_given files form.book form.files) (loaded files form) before now refusal
    (λ told is. Err-and_then (loaded files form) counted_loaded refusal (rw (all_loaded-counted files form) at is)) may

IsReached-counted : (files : Files) (book : Word) (words : List Word) (file : ℕ) → IsReached counted_given files book words file → IsReached calls_given files book words file
IsReached-counted files book words zero is = tt
IsReached-counted files book words (suc process) is =
    let found = Ok-and_then (files_loaded (calls_given is.read) files 0 (take process words)) (map call_count) is.before.first
    (sym (files_loaded-counted is.read files 0 (take process words)) ∙ is.before.good) in
    record {
      read = is.read;
      loaded_is = is.loaded_is;
      enough = is.enough;
      before = record { there = is.before.there; first = found.0; good = found.1 };
    }

pub MayReach-counted : (tells : Bool) (files : Files) (form : Form) (file : ℕ)
    → MayReachOf counted_given tells files form.book form.files file → MayReach tells files form file
MayReach-counted tells files form file may =
    record { named = may.named; reached = λ told. IsReached-counted files form.book form.files file (may.reached told) }

-- the numbers of calls, summed
sum_by-counted : (all : List (List Call)) → sum_by sum (map call_count all) ≡ sum_by length all
sum_by-counted [] = refl
sum_by-counted (calls ∷ all) =
    let here : sum (call_count calls) ≡ length calls = omega arith in
    let both : sum (call_count calls) + sum_by sum (map call_count all) ≡ length calls + sum_by length all = rw (here, sum_by-counted all) refl in
    sum_by-cons sum (call_count calls) (map call_count all) ∙ both ∙ sym (sum_by-cons length calls all)

-- calls of each file, so many as were counted
record AreCallsOf (b : NamedBook) (counts : List (List ℕ)) : Type 0 where
  all : List (List Call)
  same : counts ≡ map call_count all
  known : All (IsSpelled (PaysBytes b)) all

AreCallsOf-known : (b : NamedBook) (counts : List (List ℕ)) → All (IsSpelled (CountsBytes b)) counts → AreCallsOf b counts
AreCallsOf-known b [] known = record { all = []; same = refl; known = All-nil (IsSpelled (PaysBytes b)) }
AreCallsOf-known b (items ∷ counts) known =
    let first = known zero [] (omega arith) in
    let others = AreCallsOf-known b counts (λ k d below. known (suc k) d (omega arith)) in
    let here : items ≡ call_count first.2.0 = first.2.2 in
    let rest : counts ≡ map call_count others.all = others.same in
    record {
      all = first.2.0 ∷ others.all;
      same = cc;
      known = All-cons (IsSpelled (PaysBytes b)) first.2.0 others.all (first.0, first.1, first.2.1) others.known;
    }

-- bytes spell so many calls as were counted
abbrev Counted : (ℕ → List ℕ → List Call → Type 0) → ℕ → List ℕ → List ℕ → Type 0
Counted pays process bytes given = (calls : List Call) × pays process bytes calls × (given ≡ call_count calls)

-- the same where the files spell them
record AreCallsIn (pays : ℕ → List ℕ → List Call → Type 0) (files : Files) (words : List Word) (counts : List (List ℕ)) : Type 0 where
  all : List (List Call)
  same : counts ≡ map call_count all
  known : All (IsSpelled pays) all
  each : EachSpells pays files words all

EachSpells-cons : (pays : ℕ → List ℕ → List Call → Type 0) (files : Files) (word : Word) (words : List Word) (calls : List Call) (all : List (List Call))
    → SpellsFile (pays 0) files word calls → EachSpells (λ p. pays (suc p)) files words all → EachSpells pays files (word ∷ words) (calls ∷ all)
EachSpells-cons pays files word words calls all first rest zero below = first
EachSpells-cons pays files word words calls all first rest (suc p) below = rest p (omega arith)

AreCallsIn-each : (pays : ℕ → List ℕ → List Call → Type 0) (files : Files) (words : List Word) (counts : List (List ℕ)) → length words ≡ length counts
    → EachSpells (Counted pays) files words counts → AreCallsIn pays files words counts
AreCallsIn-each pays files words [] same each = record { all = []; same = refl; known = All-nil (IsSpelled pays); each = λ p below. absurd (omega arith) }
AreCallsIn-each pays files [] (items ∷ counts) same each = absurd (omega arith)
AreCallsIn-each pays files (word ∷ words) (items ∷ counts) same each =
    let first = each zero (omega arith) in
    let others = AreCallsIn-each (λ p. pays (suc p)) files words counts (omega arith) (λ p below. each (suc p) (omega arith)) in
    let here : items ≡ call_count first.spelled.0 = first.spelled.2 in
    let rest : counts ≡ map call_count others.all = others.same in
    let later : All (IsSpelled pays) others.all = λ k d below. let is = others.known k d below in (suc is.0, is.1, is.2) in
    record {
      all = first.spelled.0 ∷ others.all;
      same = cc;
      known = All-cons (IsSpelled pays) first.spelled.0 others.all (0, first.bytes, first.spelled.1) later;
      each = EachSpells-cons pays files word words first.spelled.0 others.all (record { bytes = first.bytes; held = first.held; spelled = first.spelled.1 }) others.each;
    }

-- each file gave one number
pub All-IsCount : (b : NamedBook) (counts : List (List ℕ)) → All (IsSpelled (CountsBytes b)) counts → All IsCount counts
All-IsCount b counts known = λ k d below.
    let spelled = (known k d below).2 in
    record { number = length spelled.0; one = spelled.2; few = spelled.1.few }

-- the number that a file gave
pub IsCount-at : (files : List (Vec ℕ Global)) (i : ℕ) (file : Vec ℕ Global) → i < length files → file ≡ get_or files i file
    → All IsCount (contents_of files) → IsCount file.items
IsCount-at files i file within is counts =
    rw (sym (get_or-contents_of files i file within is)) (counts i [] (omega (arith, within, length-contents_of files)))

-- the number of one more file
pub sum_by-number_more : (files : List (Vec ℕ Global)) (i : ℕ) (file : Vec ℕ Global) (number : ℕ) → i < length files → file ≡ get_or files i file
    → file.items ≡ number ∷ [] → sum_by sum (take i (contents_of files)) + number ≡ sum_by sum (take (i + 1) (contents_of files))
sum_by-number_more files i file number within is one =
    let here : get_or (contents_of files) i [] ≡ number ∷ [] = get_or-contents_of files i file within is ∙ one in
    let summed : sum (get_or (contents_of files) i []) ≡ number = ap sum here ∙ omega arith in
    omega (arith, summed, sum_by_more sum (contents_of files) i [] (omega (arith, within, length-contents_of files)))

-- what is so of the book and names beside which the files were counted
pub record IsCounted (form : Form) (l : LoadedOf ℕ) : Type 0 where
  pub book : IsBook l.book
  pub names : AreNamesOf l.book l.names
  pub given : length form.files ≡ l.book.processes
  pub count : length l.files ≡ length form.files

-- what was counted is what was read
counts-known : (files : Files) (form : Form) (l : LoadedOf ℕ) → IsCounted form l
    → AreCallsOf (named_book l.book l.names) l.files → CountsRead false files form l.book (sum_by sum l.files)
counts-known files form l counts are = record {
  what = record { book = l.book; names = l.names; files = are.all };
  book_is = refl;
  calls_are = ap (sum_by sum) are.same ∙ sum_by-counted are.all;
  holds = record {
    book = counts.book;
    names = counts.names;
    given = counts.given;
    count = sym (length-map are.all call_count) ∙ ap length (sym are.same) ∙ counts.count;
    known = are.known;
  };
  read = λ told. absurd (cc);
  spelled = λ told. absurd (cc);
}

counts-spelled : (tells : Bool) (files : Files) (form : Form) (l : LoadedOf ℕ) → IsCounted form l
    → SpelledOf CountsBytes files form.book form.files l → CountsRead tells files form l.book (sum_by sum l.files)
counts-spelled tells files form l counts is =
    let are = AreCallsIn-each (PaysBytes (named_book l.book l.names)) files form.files l.files (is.files.enough ∙ sym is.files.count) is.files.each in
    let same : length are.all ≡ length l.files = sym (length-map are.all call_count) ∙ ap length (sym are.same) in
    let what : Loaded = record { book = l.book; names = l.names; files = are.all } in
    let spelled : SpelledOf PaysBytes files form.book form.files what =
    record { book = is.book; files = record { enough = is.files.enough; count = same ∙ is.files.count; each = are.each } } in
    record {
      what = what;
      book_is = refl;
      calls_are = ap (sum_by sum) are.same ∙ sum_by-counted are.all;
      holds = record { book = counts.book; names = counts.names; given = counts.given; count = same ∙ counts.count; known = are.known };
      read = λ told. loaded-Spelled files form what spelled;
      spelled = λ told. spelled;
    }

pub CountsRead-counted : (tells : Bool) (files : Files) (form : Form) (l : LoadedOf ℕ) → IsCounted form l
    → (tells ≡ true → SpelledOf CountsBytes files form.book form.files l) → All (IsSpelled (CountsBytes (named_book l.book l.names))) l.files
    → CountsRead tells files form l.book (sum_by sum l.files)
CountsRead-counted true files form l counts spelled known = counts-spelled true files form l counts (spelled refl)
CountsRead-counted false files form l counts spelled known = counts-known files form l counts (AreCallsOf-known (named_book l.book l.names) l.files known)
