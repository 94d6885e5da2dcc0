-- What a node answers of bytes at a place of a log, and what is left of it.
use Rattle.std.specs.Prelude.{◌≡◌, ◌≢◌, ℕ, ◌+◌, ◌<◌, ◌≤◌, ◌↔◌, List, length, All, slice_index, slice_set, Some, IsTrue}
use Rattle.at_logs.specs.Prelude.{BookTerms, Covers, LogTerms, account_on_logs, is_owner, with_messages, MESSAGES_MAX, sha256}
use Rattle.at_logs.specs.Entry.{EntryTerms, IsEntryOn, entry_bytes, messages_in_log}
use Rattle.at_logs.specs.Reading.{ReadingState, tail_of}
use Rattle.at_logs.specs.declared.node.Answer.{Answer}
use Rattle.at_logs.specs.declared.node.Answer.TheVariants.{Taken, NotAnEntry, Forked, Gap, Again}
use Rattle.at_logs.specs.declared.tail.Tail.{Tail}

-- what tells which bytes spell an entry: a book, its hash, and its logs
pub record EntryBook : Type 0 where
  pub book : BookTerms
  pub hash : List ℕ
  pub logs : LogTerms

abbrev pub entry_book : ReadingState → EntryBook
entry_book s = record { book = s.book; hash = s.hash; logs = s.node.book }

-- the log debits the account, and the writer owns it
pub record IsSource (b : EntryBook) (log writer account : ℕ) : Type 0 where
  pub debited : (account_on_logs b.logs account).log ≡ Some log
  pub owner : IsTrue (is_owner b.book writer account)

-- the bytes spell this entry of the log: it is of the book, and each of its messages has a source there
pub record SpellsEntry (b : EntryBook) (log : ℕ) (bytes : List ℕ) (e : EntryTerms) : Type 0 where
  pub on : IsEntryOn b.logs.logs (length b.book.accounts) b.book.processes e
  pub exact : bytes ≡ entry_bytes e
  pub book : e.book ≡ b.hash
  pub sources : All (λ m. IsSource b log e.writer m.from) e.messages

-- the entry's `deps` are those of the next place: they count the log's messages, and no fewer of any log than the entry before. There are
-- numbers for its messages
pub record ComesNext (t : Tail) (log : ℕ) (e : EntryTerms) : Type 0 where
  pub own : slice_index e.deps log ≡ t.messages
  pub room : t.messages + length e.messages ≤ MESSAGES_MAX
  pub kept : Covers e.deps t.deps

-- the bytes stand at the next place and spell an entry that comes next there
pub record Fits (b : EntryBook) (t : Tail) (log place : ℕ) (bytes : List ℕ) (e : EntryTerms) : Type 0 where
  pub here : place ≡ t.entries
  pub spelled : SpellsEntry b log bytes e
  pub before : e.before ≡ t.hash
  pub next : ComesNext t log e

-- they spell one there that was made after other bytes than those before it
pub record IsForked (b : EntryBook) (t : Tail) (log place : ℕ) (bytes : List ℕ) : Type 0 where
  pub here : place ≡ t.entries
  pub spelled : (e : EntryTerms) × SpellsEntry b log bytes e
  pub before : (e : EntryTerms) → SpellsEntry b log bytes e → e.before ≢ t.hash

-- they spell none there, or one whose `deps` are of another place
pub record IsPassed (b : EntryBook) (t : Tail) (log place : ℕ) (bytes : List ℕ) : Type 0 where
  pub here : place ≡ t.entries
  pub before : (e : EntryTerms) → SpellsEntry b log bytes e → e.before ≡ t.hash
  pub unfit : (e : EntryTerms) → SpellsEntry b log bytes e → ¬ ComesNext t log e

-- when each answer comes
abbrev pub IsAnswerAt : ReadingState → ℕ → ℕ → List ℕ → Answer → Type 0
IsAnswerAt s log place bytes Taken = (e : EntryTerms) × Fits (entry_book s) (tail_of s log) log place bytes e
IsAnswerAt s log place bytes NotAnEntry = IsPassed (entry_book s) (tail_of s log) log place bytes
IsAnswerAt s log place bytes Forked = IsForked (entry_book s) (tail_of s log) log place bytes
IsAnswerAt s log place bytes Gap = (tail_of s log).entries < place
IsAnswerAt s log place bytes Again = place < (tail_of s log).entries

-- the answer comes exactly then
abbrev pub IsOneAnswer : ReadingState → ℕ → ℕ → List ℕ → Answer → Type 0
IsOneAnswer s log place bytes a = (b : Answer) → (a ≡ b) ↔ IsAnswerAt s log place bytes b

-- the bytes are passed over
abbrev pub passed_over : ReadingState → ℕ → List ℕ → ReadingState
passed_over s log bytes = record s {
  tails = slice_set s.tails log (record (tail_of s log) { entries = (tail_of s log).entries + 1; hash = sha256 bytes });
}

-- the entry is read
abbrev pub tail_after : Tail → List ℕ → EntryTerms → Tail
tail_after t bytes e = record { entries = t.entries + 1; messages = t.messages + length e.messages; deps = e.deps; hash = sha256 bytes }

-- its messages are delivered as the next ones of the log
pub record HasTaken (s : ReadingState) (log : ℕ) (bytes : List ℕ) (e : EntryTerms) (t : ReadingState) : Type 0 where
  pub book : t.book ≡ s.book
  pub hash : t.hash ≡ s.hash
  pub logs : t.node.book ≡ s.node.book
  pub messages : t.node.messages ≡ with_messages s.node.messages log (tail_of s log).messages (messages_in_log e log)
  pub tails : t.tails ≡ slice_set s.tails log (tail_after (tail_of s log) bytes e)
  pub told : t.told ≡ s.told

-- what is left after each answer
abbrev pub LeavesAfter : ReadingState → ℕ → List ℕ → ReadingState → Answer → Type 0
LeavesAfter s log bytes t Taken = (e : EntryTerms) → SpellsEntry (entry_book s) log bytes e → HasTaken s log bytes e t
LeavesAfter s log bytes t NotAnEntry = t ≡ passed_over s log bytes
LeavesAfter s log bytes t Forked = t ≡ s
LeavesAfter s log bytes t Gap = t ≡ s
LeavesAfter s log bytes t Again = t ≡ s
