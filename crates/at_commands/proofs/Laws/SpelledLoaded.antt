-- Files that spell a book and its calls are loaded.
use Rattle.std.proofs.Common.{◌≡◌, ℕ, ◌+◌, ◌<◌, List, [], ◌∷◌, length, get_or, zero, suc, true, false, nat_lt, ◌==◌, eq-eqb, All, Result, Ok, Err, IfOk, refl, sym, ◌∙◌, zero-add, arith}
use Rattle.at_commands.proofs.Prelude.{nat_tests, BookTerms, Call, IsPlayable, contents_of, NamedBook, messages_spelled, NameList, file_records, book_of_records, payments_of, replay_payments_of, book_of_records-records_of_book, messages_spelled-Sends, payments_of-Pays, replay_payments_of-PaysReplay, most_file_bytes, Word, Form, Giving, HoldsFile, IsSpelled, Loaded, LoadedOf, PaysBytes, PaysReplayBytes, SendsBytes, Spelled, SpelledOf, Spelling, SpellsBook, SpellsFile, all_loaded, book_loaded, calls_given, fetched, files_loaded, loaded, messages_given, named_book, replay_calls_given}
use Rattle.at_commands.specs.Commanding.{Accepts}
use Rattle.at_commands.specs.Loading.{Files}
use Rattle.at_commands.specs.declared.loading.Loaded as program

-- a file that is there and not too long is fetched
pub fetched-HoldsFile : (files : Files) (name : Word) (bytes : List ℕ) (number : ℕ) → HoldsFile files name bytes → fetched (files name) number ≡ Ok bytes
fetched-HoldsFile files name bytes number held =
    let size : nat_lt most_file_bytes (length bytes) ≡ false = let size = held.size in grind (arith, nat_tests) in
    rw (held.there, size) refl

book_loaded-SpellsBook : (files : Files) (name : Word) (b : BookTerms) (names : NameList) → SpellsBook files name b names → book_loaded files name ≡ Ok (record { book = b; names = names })
book_loaded-SpellsBook files name b names is =
    let read : book_of_records (file_records is.bytes) ≡ Ok (record { book = b; names = names }) = rw is.spelled.spelled (book_of_records-records_of_book b names is.spelled.book is.spelled.named) in
    rw (fetched-HoldsFile files name is.bytes 0 is.held, read) refl

-- the files of processes that spell something, one after another
files_loaded-each : {T : Type 0} (spells : ℕ → List ℕ → List T → Type 0) (given : Giving T) (files : Files) (process : ℕ)
    → ((p : ℕ) (bytes : List ℕ) (items : List T) → spells p bytes items → given (process + p) bytes ≡ Ok items)
    → (words : List Word) (all : List (List T)) → length words ≡ length all
    → ((p : ℕ) → p < length all → SpellsFile (spells p) files (get_or words p []) (get_or all p [])) → files_loaded given files process words ≡ Ok all
unfolding files_loaded
files_loaded-each spells given files process accepts [] [] same each = refl
files_loaded-each spells given files process accepts [] (file ∷ all) same each = absurd (omega arith)
files_loaded-each spells given files process accepts (word ∷ words) [] same each = absurd (omega arith)
files_loaded-each spells given files process accepts (word ∷ words) (file ∷ all) same each =
    let is = each zero (omega arith) in
    let here : process + 0 ≡ process = omega arith in
    let first : given process is.bytes ≡ Ok file = rw here at (accepts 0 is.bytes file is.spelled) in
    let more : (p : ℕ) → process + suc p ≡ (process + 1) + p = λ p. omega arith in
    let later : files_loaded given files (process + 1) words ≡ Ok all =
    files_loaded-each (λ p. spells (suc p)) given files (process + 1) (λ p bytes items is_spelled. rw (more p) at (accepts (suc p) bytes items is_spelled)) words all (omega arith)
    (λ p below. each (suc p) (omega arith)) in
    rw (fetched-HoldsFile files word is.bytes (process + 1) is.held, first, later) refl

-- what a book and files spell is loaded
pub all_loaded-SpelledOf : {T : Type 0} (spells : Spelling T) (given : NamedBook → Giving T) (files : Files) (name : Word) (words : List Word) (l : LoadedOf T)
    → Accepts spells given → SpelledOf spells files name words l → all_loaded given files name words ≡ Ok l
all_loaded-SpelledOf spells given files name words l accepts is =
    let b = named_book l.book l.names in
    let book : book_loaded files name ≡ Ok b = book_loaded-SpellsBook files name l.book l.names is.book in
    let enough : length words == l.book.processes ≡ true = eq-eqb _ _ is.files.enough in
    let each : files_loaded (given b) files 0 words ≡ Ok l.files =
    files_loaded-each (spells b) (given b) files 0
    (λ p bytes items spelled. rw (zero-add p) (accepts b p bytes items is.book.spelled.book is.book.spelled.named spelled)) words l.files (is.files.enough ∙ sym is.files.count) is.files.each in
    rw (book, enough, each) refl

pub Accepts-payments : Accepts PaysBytes calls_given
Accepts-payments b process bytes calls checked are is =
    let read : payments_of b.names process (file_records bytes) ≡ Ok calls = payments_of-Pays b.book b.names process (file_records bytes) calls are is in
    rw read refl

pub Accepts-replay : Accepts PaysReplayBytes replay_calls_given
Accepts-replay b process bytes calls checked are is =
    let read : replay_payments_of b.names process (file_records bytes) ≡ Ok calls = replay_payments_of-PaysReplay b.book b.names process (file_records bytes) calls are is in
    rw read refl

pub Accepts-messages : Accepts SendsBytes messages_given
Accepts-messages b process bytes messages checked are is =
    let read : messages_spelled b.book (file_records bytes) ≡ Ok messages = messages_spelled-Sends b.book (file_records bytes) messages (omega (arith, checked.begun.few_accounts)) is in
    rw read refl

-- what the files of a form spell is loaded
pub loaded-Spelled : (files : Files) (form : Form) (l : Loaded) → Spelled files form l → loaded files form ≡ Ok l
loaded-Spelled files form l is = all_loaded-SpelledOf PaysBytes calls_given files form.book form.files l Accepts-payments is

-- calls that payment files spell can be played
pub IsPlayable-each : (b : NamedBook) (files : List (List Call)) → All (IsSpelled (PaysBytes b)) files → All (IsPlayable (length b.book.accounts)) files
IsPlayable-each b files spelled = λ k d below.
    let pays = (spelled k d below).2 in
    record { known = pays.known; few = pays.few }

pub IsPlayable-spelled : {E : Type 0} (r : Result (program.Loaded Call) E) → IfOk r (λ l. All (IsSpelled (PaysBytes (named_book l.book l.names))) (contents_of l.files.items))
    → IfOk r (λ l. All (IsPlayable (length l.book.accounts)) (contents_of l.files.items))
IsPlayable-spelled (Ok l) spelled = IsPlayable-each (named_book l.book l.names) (contents_of l.files.items) spelled
IsPlayable-spelled (Err refusal) spelled = tt
