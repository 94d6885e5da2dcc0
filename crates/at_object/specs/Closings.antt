-- The closing of a ledger.
use Rattle.std.specs.Prelude.{◌≡◌, ℕ, ◌+◌, ◌<◌, List, [], length, take, slice_index_or, All, None}
use Rattle.at_object.specs.Prelude.{BoardState, IsHistory, IsPrefix, count_of, publications_of, Sound, BookTerms, BoardTerms, Call, ClosingTerms, IsNotBehind, KeepsTime, Receipt, log_published, receipt_at, receipts_of}
use Rattle.at_object.specs.Calls.{CallMade}
use Rattle.at_object.specs.Passes.{IsPassOf, PassTerms, Stands, past_receipts}
use Rattle.at_object.specs.Payments.{IsRefused}

-- the pass is the ledger's for the process, these receipts stand with it, and they are those of the calls that were made with it
pub record IsAccountedFor (ledger : BoardTerms) (process : ℕ) (pass : PassTerms) (receipts : List Receipt) : Type 0 where
  pub of_ledger : IsPassOf pass ledger
  pub process_is : pass.knows.first ≡ process
  pub stands : Stands pass receipts
  pub made : past_receipts pass ≡ receipts

-- all passes of the ledger in order, with the receipts of all calls
pub record AreAccountedFor (ledger : BoardTerms) (passes : List PassTerms) (receipts : List (List Receipt)) : Type 0 where
  pub passes_count : length passes ≡ ledger.book.processes
  pub receipts_count : length receipts ≡ ledger.book.processes
  pub each : (p : ℕ) (d : PassTerms) → p < ledger.book.processes →
      IsAccountedFor ledger p (slice_index_or passes p d) (slice_index_or receipts p [])

-- a closed ledger by the ledger that it was, its book and its closing, and each process's pass at its end
pub record ClosedTerms : Type 0 where
  pub ledger : BoardTerms
  pub book : BookTerms
  pub closing : ClosingTerms
  pub passes : List PassTerms

-- the logs are the publications of the board's last state, which is sound and in which no cell is held, divided by process. All that each
-- pass had seen is a prefix of that one list, which has no more of its process, and the journal's order keeps its time
pub record HasAllLogs (passes : List PassTerms) (closed : ClosedTerms) : Type 0 where
  pub state : BoardState
  pub sound : Sound closed.book state
  pub history : IsHistory closed.book state.published
  pub free : (p : ℕ) → p < closed.book.processes → state.held p ≡ None
  pub logs : (p : ℕ) → p < closed.book.processes → log_published closed.closing p ≡ publications_of p state.published
  pub seen : All (λ pass. IsPrefix pass.knows.seen state.published) passes
  pub counted : (p : ℕ) (d : PassTerms) → p < closed.book.processes →
      count_of p state.published ≡ count_of p (slice_index_or passes p d).knows.seen
  pub in_time : KeepsTime state.published closed.closing

-- call j of process q isn't refused, and its pass had learned a note of process p before it. The note's pass is `noted`: call i had ended,
-- so the receipts up to it stand with that pass. All that it had seen `before` had seen, and `after` is what the call left of its pass
pub record ComesAfterNote (closed : ClosedTerms) (p i q j : ℕ) : Type 0 where
  pub noted : PassTerms
  pub noted_of : IsPassOf noted closed.ledger
  pub noted_process : noted.knows.first ≡ p
  pub ended : Stands noted (take (i + 1) (receipts_of closed.closing p))
  pub before : PassTerms
  pub before_of : IsPassOf before closed.ledger
  pub process_is : before.knows.first ≡ q
  pub stood : Stands before (take j (receipts_of closed.closing q))
  pub learned : IsPrefix noted.knows.seen before.knows.seen
  pub after : PassTerms
  pub call : Call
  pub made : CallMade closed.ledger.book before after call (receipt_at (receipts_of closed.closing q) j)
  pub decided : ¬ IsRefused (receipt_at (receipts_of closed.closing q) j)
  pub last : IsPrefix after.knows.seen (slice_index_or closed.passes q after).knows.seen

-- no call is behind one that was made after a note of it, in the journal's order
abbrev pub KeepsNotes : ClosedTerms → Type 0
KeepsNotes closed = (p i q j : ℕ) → p < length closed.closing.receipts → i < length (receipts_of closed.closing p)
    → q < length closed.closing.receipts → j < length (receipts_of closed.closing q) → ComesAfterNote closed p i q j
    → IsNotBehind closed.closing p i q j
