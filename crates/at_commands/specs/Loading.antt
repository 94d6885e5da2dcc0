-- What the files that the words name give, or why they are refused.
use Rattle.std.specs.Prelude.{◌≡◌, ℕ, ◌+◌, Bool, true, ◌<◌, ◌≤◌, ◌==◌, ⊤, List, [], ◌∷◌, zero, suc, length, take, nat_lt, slice_index_or, Option, Some, None, Result, Ok, Err, if◌then◌else◌}
use Rattle.at_commands.specs.Prelude.{Message, BookTerms, Call, contents_of, file_records, location_of, and_then, AreNamesOf, NameList, NamedBook, book_of_records, Spells, Sends, messages_spelled, payments_of, Pays, replay_payments_of, PaysReplay, MessagesWhy, BadRecord, most_file_bytes, Status, Word}
use Rattle.at_files.specs.declared.book_fault.BadBook.{BadBook}
use Rattle.at_files.specs.declared.payments_fault.BadPayments.{BadPayments}
use Rattle.at_report.specs.declared.status.Status.TheVariants as status
use Rattle.at_report.specs.declared.status.UsageFault.TheVariants as usage
use Rattle.at_commands.specs.Words.{Form}
use Rattle.at_commands.specs.declared.loading.Loaded as program

-- the bytes of a file by its name, if it is there
abbrev pub Files : Type 0
Files = Word → Option (List ℕ)

-- the bytes of the file with this number, which has to be there and not too long
abbrev pub fetched : Option (List ℕ) → ℕ → Result (List ℕ) Status
fetched None number = Err (status.ReadFault number)
fetched (Some bytes) number = if nat_lt most_file_bytes (length bytes) then Err (status.TooLong number) else Ok bytes

-- the book of a file's bytes, with its names
abbrev pub book_read : List ℕ → Result NamedBook BadBook → Result NamedBook Status
book_read bytes (Ok b) = Ok b
book_read bytes (Err bad) = Err (status.BadBook (location_of bytes bad.line) bad.why)

-- the book of file 0, with its names
abbrev pub book_loaded : Files → Word → Result NamedBook Status
book_loaded files name = and_then (fetched (files name) 0) (λ bytes. book_read bytes (book_of_records (file_records bytes)))

-- a book beside its names
abbrev pub named_book : BookTerms → NameList → NamedBook
named_book b names = record { book = b; names = names }

-- what the bytes of a process's file give, or why they are refused
abbrev pub Giving : Type 0 → Type 0
Giving T = ℕ → List ℕ → Result (List T) Status

-- what the file of a process gives, which is one above its number
abbrev pub file_loaded : {T : Type 0} → Giving T → Files → ℕ → Word → Result (List T) Status
file_loaded given files process name = and_then (fetched (files name) (process + 1)) (given process)

-- what one file gave before what those of the processes give that come later
abbrev pub file_first : {T : Type 0} → List T → Result (List (List T)) Status → Result (List (List T)) Status
file_first first later = and_then later (λ others. Ok (first ∷ others))

-- what the files of these names give, the first of which is this process's
unfoldable pub files_loaded : {T : Type 0} → Giving T → Files → ℕ → List Word → Result (List (List T)) Status
files_loaded given files process [] = Ok []
files_loaded given files process (name ∷ rest) =
    and_then (file_loaded given files process name) (λ first. file_first first (files_loaded given files (process + 1) rest))

-- a book with its names, and what the file of each process gives
pub record LoadedOf (T : Type 0) : Type 0 where
  pub book : BookTerms
  pub names : NameList
  pub files : List (List T)

-- what the files gave beside this book
abbrev pub loaded_beside : {T : Type 0} → NamedBook → List (List T) → LoadedOf T
loaded_beside b all = record { book = b.book; names = b.names; files = all }

-- the same, or why they are refused
abbrev pub with_book : {T : Type 0} → NamedBook → Result (List (List T)) Status → Result (LoadedOf T) Status
with_book b files = and_then files (λ all. Ok (loaded_beside b all))

-- as many files as the book has processes, and what they give
abbrev pub files_beside : {T : Type 0} → (NamedBook → Giving T) → Files → List Word → NamedBook → Result (LoadedOf T) Status
files_beside given files words b =
    if length words == b.book.processes then with_book b (files_loaded (given b) files 0 words)
    else Err (status.Usage (usage.Files b.book.processes (length words)))

-- what the book and these files give, or the first refusal: the book's, then that of their number, then that of each in turn
abbrev pub all_loaded : {T : Type 0} → (NamedBook → Giving T) → Files → Word → List Word → Result (LoadedOf T) Status
all_loaded given files book words = and_then (book_loaded files book) (λ b. files_beside given files words b)

-- the calls of a payment file's bytes
abbrev pub calls_read : ℕ → List ℕ → Result (List Call) BadPayments → Result (List Call) Status
calls_read process bytes (Ok calls) = Ok calls
calls_read process bytes (Err bad) = Err (status.BadPayments process (location_of bytes bad.line) bad.why)

-- what a payment file gives: its calls, or its fault; of messages_given the messages
abbrev pub calls_given : NamedBook → Giving Call
calls_given b process bytes = calls_read process bytes (payments_of b.names process (file_records bytes))

-- the same of a payment file for a replay, which makes fewer calls
abbrev pub replay_calls_given : NamedBook → Giving Call
replay_calls_given b process bytes = calls_read process bytes (replay_payments_of b.names process (file_records bytes))

-- a book with its names, and the calls of each process
abbrev pub Loaded : Type 0
Loaded = LoadedOf Call

-- what the words' files give, or the first refusal
abbrev pub loaded : Files → Form → Result Loaded Status
loaded files form = all_loaded calls_given files form.book form.files

-- the messages of a message file's bytes
abbrev pub messages_read : ℕ → List ℕ → Result (List Message) (BadRecord MessagesWhy) → Result (List Message) Status
messages_read process bytes (Ok messages) = Ok messages
messages_read process bytes (Err bad) = Err (status.BadMessages process (location_of bytes bad.line) bad.why)

abbrev pub messages_given : NamedBook → Giving Message
messages_given b process bytes = messages_read process bytes (messages_spelled b.book (file_records bytes))

-- the files before that of this process are good
pub record AreGoodBefore {T : Type 0} (given : Giving T) (files : Files) (words : List Word) (process : ℕ) : Type 0 where
  pub there : process < length words
  pub first : List (List T)
  pub good : files_loaded given files 0 (take process words) ≡ Ok first

-- the file with this number is one of these, and where the files are told those before it are good
abbrev pub IsFileReached : {T : Type 0} → Giving T → Bool → Files → List Word → ℕ → Type 0
IsFileReached given tells files words file =
    (process : ℕ) × ((file ≡ process + 1) × (process < length words) × (tells ≡ true → AreGoodBefore given files words process))

-- the book is good, there are as many files as it has processes, and those before that of this process are good
pub record IsReachedBy {T : Type 0} (given : NamedBook → Giving T) (files : Files) (book : Word) (words : List Word) (process : ℕ) : Type 0 where
  pub read : NamedBook
  pub loaded_is : book_loaded files book ≡ Ok read
  pub enough : length words ≡ read.book.processes
  pub before : AreGoodBefore (given read) files words process

-- what stands before the file with this number is good: nothing stands before the book
abbrev pub IsReached : {T : Type 0} → (NamedBook → Giving T) → Files → Word → List Word → ℕ → Type 0
IsReached given files book words zero = ⊤
IsReached given files book words (suc process) = IsReachedBy given files book words process

-- the file with this number is one of these, and where the files are told what stands before it is good
pub record MayReachOf {T : Type 0} (given : NamedBook → Giving T) (tells : Bool) (files : Files) (book : Word) (words : List Word) (file : ℕ) : Type 0 where
  pub named : file ≤ length words
  pub reached : tells ≡ true → IsReached given files book words file

-- the same of a form's files
abbrev pub MayReach : Bool → Files → Form → ℕ → Type 0
MayReach tells files form file = MayReachOf calls_given tells files form.book form.files file

-- the file is there and not too long, and these are its bytes
pub record HoldsFile (files : Files) (name : Word) (bytes : List ℕ) : Type 0 where
  pub there : files name ≡ Some bytes
  pub size : length bytes ≤ most_file_bytes

-- the file of this name spells the book and its names
pub record SpellsBook (files : Files) (name : Word) (b : BookTerms) (names : NameList) : Type 0 where
  pub bytes : List ℕ
  pub held : HoldsFile files name bytes
  pub spelled : Spells (file_records bytes) b names

-- this is the book that was read of the file of this name, and there is one of these files for each of its processes. The file spells it where
-- the files are told
pub record IsBookRead (tells : Bool) (files : Files) (name : Word) (words : List Word) (b : NamedBook) : Type 0 where
  pub names : AreNamesOf b.book b.names
  pub enough : length words ≡ b.book.processes
  pub read : tells ≡ true → book_loaded files name ≡ Ok b
  pub spelled : tells ≡ true → SpellsBook files name b.book b.names

-- what the bytes of a process's file spell beside a book with its names
abbrev pub Spelling : Type 0 → Type 1
Spelling T = NamedBook → ℕ → List ℕ → List T → Type 0

-- the calls of a payment file
abbrev pub PaysBytes : Spelling Call
PaysBytes b process bytes calls = Pays b.book b.names process (file_records bytes) calls

-- the calls of a payment file for a replay
abbrev pub PaysReplayBytes : Spelling Call
PaysReplayBytes b process bytes calls = PaysReplay b.book b.names process (file_records bytes) calls

-- the messages of a message file
abbrev pub SendsBytes : Spelling Message
SendsBytes b process bytes messages = Sends b.book (file_records bytes) messages

-- the file of this name spells these
pub record SpellsFile {T : Type 0} (spells : List ℕ → List T → Type 0) (files : Files) (name : Word) (items : List T) : Type 0 where
  pub bytes : List ℕ
  pub held : HoldsFile files name bytes
  pub spelled : spells bytes items

-- some bytes spell these, as the file of some process
abbrev pub IsSpelled : {T : Type 0} → (ℕ → List ℕ → List T → Type 0) → List T → Type 0
IsSpelled spells items = (process : ℕ) × (bytes : List ℕ) × spells process bytes items

-- the file of each process spells what it gave
abbrev pub EachSpells : {T : Type 0} → (ℕ → List ℕ → List T → Type 0) → Files → List Word → List (List T) → Type 0
EachSpells spells files words all =
    (p : ℕ) → p < length all → SpellsFile (spells p) files (slice_index_or words p []) (slice_index_or all p [])

-- there are as many files as processes, and each spells what is its process's
pub record SpellsFiles {T : Type 0} (spells : ℕ → List ℕ → List T → Type 0) (files : Files) (words : List Word) (processes : ℕ) (all : List (List T)) : Type 0 where
  pub enough : length words ≡ processes
  pub count : length all ≡ processes
  pub each : EachSpells spells files words all

-- the book and these files spell what was loaded
pub record SpelledOf {T : Type 0} (spells : Spelling T) (held : Files) (name : Word) (words : List Word) (l : LoadedOf T) : Type 0 where
  pub book : SpellsBook held name l.book l.names
  pub files : SpellsFiles (spells (named_book l.book l.names)) held words l.book.processes l.files

-- the files of these words spell what was loaded
abbrev pub Spelled : Files → Form → Loaded → Type 0
Spelled files form l = SpelledOf PaysBytes files form.book form.files l

-- what was loaded, as the program holds it
abbrev pub loaded_shown : {T : Type 0} → program.Loaded T → LoadedOf T
loaded_shown l = record { book = l.book; names = l.names; files = contents_of l.files.items }
