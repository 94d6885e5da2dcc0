-- Files loaded one after another.
use Rattle.std.proofs.Common.{◌≡◌, ℕ, ◌+◌, ◌<◌, List, [], ◌∷◌, ◌++◌, length, take, drop, get_or, Result, Ok, Err, Bool, true, false, ◌==◌, eq-eqb, refl, sym, ap, ◌∙◌, arith, suc, ◌⊎◌, inl, inr, length-append, String, string_bytes}
use Rattle.at_commands.proofs.Prelude.{Global, nat_tests, take_more, take-append-drop, length-take-le, get_or-map, drop-cons, get_or-append_seam, get_or-append, eq-or-lt_of_le, NamedBook, and_then, Status, Word, words_of, EachSpells, Giving, IsFileReached, MayReachOf, SpellsFile, all_loaded, book_loaded, file_first, file_loaded, files_loaded}
use Rattle.at_commands.specs.Loading.{Files}
use Rattle.at_report.specs.declared.status.Status.TheVariants as status
use Rattle.at_report.specs.declared.status.UsageFault.TheVariants as usage

-- what files that were loaded come of: the first, and the others
record AreParts {T : Type 0} (r : Result (List T) Status) (rest : Result (List (List T)) Status) (loaded : List (List T)) : Type 0 where
  first : List T
  others : List (List T)
  first_is : r ≡ Ok first
  others_are : rest ≡ Ok others
  whole : loaded ≡ first ∷ others

AreParts-and_then : {T : Type 0} (r : Result (List T) Status) (rest : Result (List (List T)) Status) (loaded : List (List T))
    → and_then r (λ items. file_first items rest) ≡ Ok loaded → AreParts r rest loaded
AreParts-and_then (Ok first) (Ok others) loaded h = record { first = first; others = others; first_is = refl; others_are = refl; whole = cc }
AreParts-and_then (Ok first) (Err refusal) loaded h = cc
AreParts-and_then (Err refusal) rest loaded h = cc

-- the first, and others with one more, make a whole with one more
whole_after : {T : Type 0} (r : Result (List T) Status) (rest : Result (List (List T)) Status) (first : List T) (others loaded : List (List T)) (items : List T)
    → r ≡ Ok first → rest ≡ Ok (others ++ items ∷ []) → loaded ≡ first ∷ others → and_then r (λ prefix. file_first prefix rest) ≡ Ok (loaded ++ items ∷ [])
whole_after r rest first others loaded items first_is rest_is whole = rw (first_is, rest_is, whole) refl

-- no file
pub files_loaded-nil : {T : Type 0} (given : Giving T) (files : Files) → files_loaded given files 0 [] ≡ Ok []
unfolding files_loaded
files_loaded-nil given files = refl

-- one more file after those that were loaded
pub files_loaded-push : {T : Type 0} (given : Giving T) (files : Files) (process : ℕ) (prefix : List Word) (name : Word) (loaded : List (List T)) (items : List T)
    → files_loaded given files process prefix ≡ Ok loaded → file_loaded given files (process + length prefix) name ≡ Ok items
    → files_loaded given files process (prefix ++ name ∷ []) ≡ Ok (loaded ++ items ∷ [])
unfolding files_loaded
files_loaded-push given files process [] name loaded items prefix_is last_is =
    let here : process + length {A = Word} [] ≡ process = omega arith in
    let last : file_loaded given files process name ≡ Ok items = rw here at last_is in
    let none : loaded ≡ [] = cc in
    rw (last, none) refl
files_loaded-push given files process (word ∷ prefix) name loaded items prefix_is last_is =
    let parts = AreParts-and_then (file_loaded given files process word) (files_loaded given files (process + 1) prefix) loaded prefix_is in
    let there : process + length (word ∷ prefix) ≡ process + 1 + length prefix = omega arith in
    let last : file_loaded given files (process + 1 + length prefix) name ≡ Ok items = rw there at last_is in
    let more : files_loaded given files (process + 1) (prefix ++ name ∷ []) ≡ Ok (parts.others ++ items ∷ []) =
    files_loaded-push given files (process + 1) prefix name parts.others items parts.others_are last in
    whole_after (file_loaded given files process word) _ parts.first parts.others loaded items parts.first_is more parts.whole

-- a file that is refused after those that were loaded
pub files_loaded-refused : {T : Type 0} (given : Giving T) (files : Files) (process : ℕ) (prefix : List Word) (name : Word) (rest : List Word) (loaded : List (List T)) (refusal : Status)
    → files_loaded given files process prefix ≡ Ok loaded → file_loaded given files (process + length prefix) name ≡ Err refusal
    → files_loaded given files process (prefix ++ name ∷ rest) ≡ Err refusal
unfolding files_loaded
files_loaded-refused given files process [] name rest loaded refusal prefix_is last_is =
    let here : process + length {A = Word} [] ≡ process = omega arith in
    let last : file_loaded given files process name ≡ Err refusal = rw here at last_is in
    rw last refl
files_loaded-refused given files process (word ∷ prefix) name rest loaded refusal prefix_is last_is =
    let parts = AreParts-and_then (file_loaded given files process word) (files_loaded given files (process + 1) prefix) loaded prefix_is in
    let there : process + length (word ∷ prefix) ≡ process + 1 + length prefix = omega arith in
    let last : file_loaded given files (process + 1 + length prefix) name ≡ Err refusal = rw there at last_is in
    let more : files_loaded given files (process + 1) (prefix ++ name ∷ rest) ≡ Err refusal =
    files_loaded-refused given files (process + 1) prefix name rest parts.others refusal parts.others_are last in
    rw (parts.first_is, more) refl

-- the file at a position, after those before it
pub files_loaded-take_more : {T : Type 0} (given : Giving T) (files : Files) (words : List Word) (i : ℕ) (loaded : List (List T)) (items : List T)
    → i < length words → files_loaded given files 0 (take i words) ≡ Ok loaded → file_loaded given files i (get_or words i []) ≡ Ok items
    → files_loaded given files 0 (take (i + 1) words) ≡ Ok (loaded ++ items ∷ [])
files_loaded-take_more given files words i loaded items within prefix_is last_is =
    let position : 0 + length (take i words) ≡ i = omega (arith, length-take-le i words) in
    let last : file_loaded given files (0 + length (take i words)) (get_or words i []) ≡ Ok items = rw position last_is in
    rw (take_more words i [] within) (files_loaded-push given files 0 (take i words) (get_or words i []) loaded items prefix_is last)

-- the file at a position that is refused, after those before it
pub files_loaded-refused_at : {T : Type 0} (given : Giving T) (files : Files) (words : List Word) (i : ℕ) (loaded : List (List T)) (refusal : Status)
    → i < length words → files_loaded given files 0 (take i words) ≡ Ok loaded → file_loaded given files i (get_or words i []) ≡ Err refusal
    → files_loaded given files 0 words ≡ Err refusal
files_loaded-refused_at given files words i loaded refusal within prefix_is last_is =
    let position : 0 + length (take i words) ≡ i = omega (arith, length-take-le i words) in
    let last : file_loaded given files (0 + length (take i words)) (get_or words i []) ≡ Err refusal = rw position last_is in
    let split : take i words ++ get_or words i [] ∷ drop (suc i) words ≡ words = ap (λ (rest : List Word). take i words ++ rest) (sym (drop-cons words i [] within)) ∙ take-append-drop i words in
    let refused = files_loaded-refused given files 0 (take i words) (get_or words i []) (drop (suc i) words) loaded refusal prefix_is last in
    rw split at refused

EachSpells-push_at : {T : Type 0} (spells : ℕ → List ℕ → List T → Type 0) (files : Files) (words : List Word) (loaded : List (List T)) (items : List T)
    → EachSpells spells files words loaded → SpellsFile (spells (length loaded)) files (get_or words (length loaded) []) items
    → (p : ℕ) → (p ≡ length loaded) ⊎ (p < length loaded) → SpellsFile (spells p) files (get_or words p []) (get_or (loaded ++ items ∷ []) p [])
EachSpells-push_at spells files words loaded items each last p (inl at) = rw (at, get_or-append_seam loaded items [] []) last
EachSpells-push_at spells files words loaded items each last p (inr below) = rw (get_or-append loaded (items ∷ []) [] p below) (each p below)

-- one more file that spells what it gave
pub EachSpells-push : {T : Type 0} (spells : ℕ → List ℕ → List T → Type 0) (files : Files) (words : List Word) (loaded : List (List T)) (items : List T)
    → EachSpells spells files words loaded → SpellsFile (spells (length loaded)) files (get_or words (length loaded) []) items
    → EachSpells spells files words (loaded ++ items ∷ [])
EachSpells-push spells files words loaded items each last p within =
    EachSpells-push_at spells files words loaded items each last p (eq-or-lt_of_le (omega (arith, length-append loaded (items ∷ []))))

-- the word at a position
pub get_or-words_of : (payments : List (String Global)) (i : ℕ) (name : String Global) → i < length payments → name ≡ get_or payments i name
    → get_or (words_of payments) i [] ≡ string_bytes name
get_or-words_of payments i name within is = get_or-map string_bytes payments i name [] within ∙ ap string_bytes (sym is)

-- equal lists are as long
pub same_length : {T : Type 0} (xs ys : List T) → xs ≡ ys → length xs ≡ length ys
same_length {T} xs ys same = ap (λ (list : List T). length list) same

-- what stands before a process's file that was reached is good
pub MayReach-file : {T : Type 0} (given : NamedBook → Giving T) (tells : Bool) (files : Files) (name : Word) (words : List Word) (b : NamedBook) (file : ℕ)
    → (tells ≡ true → book_loaded files name ≡ Ok b) → length words ≡ b.book.processes
    → IsFileReached (given b) tells files words file → MayReachOf given tells files name words file
MayReach-file given tells files name words b file loaded_is enough reached =
    let file_is : file ≡ suc reached.0 = omega (arith, reached.1.0) in
    record {
      named = omega (arith, reached.1.0, reached.1.1);
      reached = λ told. rw file_is (record { read = b; loaded_is = loaded_is told; enough = enough; before = reached.1.2 told });
    }

-- nothing stands before the book's file
pub MayReach-book : {T : Type 0} (given : NamedBook → Giving T) (tells : Bool) (files : Files) (name : Word) (words : List Word) (file : ℕ) → file ≡ 0
    → MayReachOf given tells files name words file
MayReach-book given tells files name words file is = rw is (record { named = omega arith; reached = λ told. tt })

-- a process's file that is refused after the book was read
pub loaded-refused : {T : Type 0} (given : NamedBook → Giving T) (files : Files) (name : Word) (words : List Word) (b : NamedBook) (refusal : Status)
    → book_loaded files name ≡ Ok b → length words ≡ b.book.processes
    → files_loaded (given b) files 0 words ≡ Err refusal → all_loaded given files name words ≡ Err refusal
loaded-refused given files name words b refusal read enough refused =
    let as_many : length words == b.book.processes ≡ true = eq-eqb _ _ enough in
    rw (read, as_many, refused) refl

-- words that don't name a file for each process
pub loaded-count : {T : Type 0} (given : NamedBook → Giving T) (files : Files) (name : Word) (words : List Word) (b : NamedBook) (wanted count : ℕ)
    → book_loaded files name ≡ Ok b → length words ≡ count → wanted ≡ b.book.processes
    → ¬ (count ≡ wanted) → all_loaded given files name words ≡ Err (status.Usage (usage.Files wanted count))
loaded-count given files name words b wanted count read count_is wanted_is other =
    let test : (length words == b.book.processes) ≡ false = grind (arith, nat_tests) in
    rw (read, test, wanted_is, ← count_is) refl

-- what the files gave beside the book that was read
pub loaded-files : {T : Type 0} (given : NamedBook → Giving T) (files : Files) (name : Word) (words : List Word) (b : NamedBook) (all : List (List T))
    → book_loaded files name ≡ Ok b → length words ≡ b.book.processes
    → files_loaded (given b) files 0 words ≡ Ok all → all_loaded given files name words ≡ Ok (record { book = b.book; names = b.names; files = all })
loaded-files given files name words b all read enough are =
    let as_many : length words == b.book.processes ≡ true = eq-eqb _ _ enough in
    rw (read, as_many, are) refl
