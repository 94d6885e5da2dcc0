-- A payment that was made and isn't in its log yet.
use Rattle.std.specs.Prelude.{◌≡◌, ℕ, ◌+◌, ◌<◌, ◌≤◌, List, [], ◌∷◌, slice_index}
use Rattle.at_logs.specs.Prelude.{TargetPair, amount_of, Follows, IsMadeAt, MESSAGES_MAX}
use Rattle.at_logs.specs.Answers.{Fits, IsSource, entry_book}
use Rattle.at_logs.specs.Entry.{EntryTerms, message_in_log}
use Rattle.at_logs.specs.Reading.{ReadingState, tail_of}
use Rattle.at_logs.specs.declared.node.Draft.{Draft}
use Rattle.at_logs.specs.declared.tail.TheConstants.{ENTRIES_MAX}

-- a process can pay amounts from an account by this log: the log debits it, the process owns it, the node has validated all of the log
-- that it has read, there is a place and a number, and the balance covers the amounts
pub record CanPay (s : ReadingState) (log writer from : ℕ) (targets : List TargetPair) : Type 0 where
  pub source : IsSource (entry_book s) log writer from
  pub all : slice_index s.node.validated log ≡ (tail_of s log).messages
  pub number : (tail_of s log).messages < MESSAGES_MAX
  pub place : (tail_of s log).entries < ENTRIES_MAX
  pub covered : amount_of targets ≤ slice_index s.node.balances from

-- the entry of one payment that is made from what the node has validated
abbrev pub payment_entry : ReadingState → ℕ → ℕ → ℕ → List TargetPair → List ℕ → EntryTerms
payment_entry s log writer from paid name = record {
  writer = writer;
  deps = s.node.validated;
  book = s.hash;
  before = (tail_of s log).hash;
  messages = record { from = from; targets = paid; reference = name } ∷ [];
}

-- it pays these amounts from this account, with this reference, and its bytes are those of an entry that comes next in its log: a payment
-- that is made from what the node has validated
pub record IsDraft (s : ReadingState) (writer from : ℕ) (paid : List TargetPair) (name : List ℕ) (d : Draft) : Type 0 where
  pub log : d.log < s.node.book.logs
  pub can : CanPay s d.log writer from paid
  pub fits : Fits (entry_book s) (tail_of s d.log) d.log d.place d.bytes.items (payment_entry s d.log writer from paid name)
  pub made : IsMadeAt s.node d.log (message_in_log (payment_entry s d.log writer from paid name) d.log 0)

-- a node of this book that was given as much as the draft's maker, and the draft at its place, has validated its payment
abbrev pub IsFinalAt : ReadingState → Draft → Type 0
IsFinalAt s d = (maker : ReadingState) (writer from : ℕ) (paid : List TargetPair) (name : List ℕ) → IsDraft maker writer from paid name d → maker.book ≡ s.book
    → maker.hash ≡ s.hash → Follows maker.node s.node → slice_index maker.node.validated d.log + 1 ≤ slice_index s.node.validated d.log
