-- What a node's calls leave, whatever it has read.
use Rattle.std.proofs.Common.{◌≡◌, ℕ, ◌<◌, List, Result, Ok, Err, ap, sym, subst}
use Rattle.std.specs.Prelude.{IfOk}
use Rattle.at_logs.specs.Calls.{HasAnswered, HasMade, HasReadEntry, passed_terms}
use Rattle.at_logs.proofs.Prelude.{Answer, Taken, NotAnEntry, Draft, IsAnswerAt, EntryTerms, HasTaken, IsHistoryOf, IsOneAnswer, LeavesAfter, MessageList, NodeTerms, SpellsEntry, WhateverRead, entry_book, read_state, shown}
use Rattle.at_logs.proofs.AnswerLaws.{IsOneAnswer-IsAnswerAt, ReadsOn-answered}
use Rattle.at_logs.proofs.DraftLaws.{IsFinalAt-taken}

-- an entry was read
pub HasAnswered-taken : (n m : NodeTerms) (log place : ℕ) (bytes : List ℕ) (e : EntryTerms) (messages : List MessageList) → log < n.core.book.logs → IsOneAnswer (shown n) log place bytes Taken
    → ((other : EntryTerms) → SpellsEntry (entry_book (shown n)) log bytes other → other ≡ e) → HasReadEntry (read_state n messages) log bytes e m → HasAnswered (read_state n messages) log place bytes Taken m
HasAnswered-taken n m log place bytes e messages known one only has =
    let leaves : LeavesAfter (read_state n messages) log bytes (read_state m has.messages) Taken = λ x spelled.
    subst (λ y. HasTaken (read_state n messages) log bytes y (read_state m has.messages)) (sym (only x spelled)) has.taken in
    record {
      messages = has.messages;
      history = has.history;
      left = leaves;
      read = ReadsOn-answered (read_state n messages) (read_state m has.messages) log place bytes Taken known one leaves has.history.reading;
    }

-- no more was read
pub HasAnswered-kept : (n m : NodeTerms) (log place : ℕ) (bytes : List ℕ) (a : Answer) (messages : List MessageList) → log < n.core.book.logs → IsOneAnswer (shown n) log place bytes a
    → LeavesAfter (read_state n messages) log bytes (read_state m messages) a → IsHistoryOf messages m → HasAnswered (read_state n messages) log place bytes a m
HasAnswered-kept n m log place bytes a messages known one left history = record {
  messages = messages;
  history = history;
  left = left;
  read = ReadsOn-answered (read_state n messages) (read_state m messages) log place bytes a known one left history.reading;
}

-- bytes were passed over
pub HasAnswered-passed : (n m : NodeTerms) (log place : ℕ) (bytes : List ℕ) (a : Answer) (messages : List MessageList) → log < n.core.book.logs → a ≡ NotAnEntry
    → IsAnswerAt (shown n) log place bytes a → m ≡ passed_terms n log bytes → IsHistoryOf messages m → HasAnswered (read_state n messages) log place bytes a m
HasAnswered-passed n m log place bytes a messages known is at m_is history =
    HasAnswered-kept n m log place bytes a messages known (IsOneAnswer-IsAnswerAt (shown n) log place bytes a at)
    (subst (LeavesAfter (read_state n messages) log bytes (read_state m messages)) (sym is) (ap (λ (x : NodeTerms). read_state x messages) m_is)) history

-- the bytes are a draft's
pub HasMade-answered : (n m : NodeTerms) (d : Draft) (a : Answer) (messages : List MessageList) → d.log < n.core.book.logs → IsOneAnswer (shown n) d.log d.place d.bytes.items a
    → IsHistoryOf messages n → HasAnswered (read_state n messages) d.log d.place d.bytes.items a m → HasMade (read_state n messages) d a m
HasMade-answered n m d a messages known one history answered = record {
  answered = answered;
  is_final = λ is.
      IsFinalAt-taken (read_state n messages) (read_state m answered.messages) d history.reading answered.history.reading known ((one Taken).0 is)
      (subst (LeavesAfter (read_state n messages) d.log d.bytes.items (read_state m answered.messages)) is answered.left);
}

-- so it is of a result
pub HasMade-result : {E : Type 0} (r : Result Answer E) (n m : NodeTerms) (d : Draft) (bytes : List ℕ) → bytes ≡ d.bytes.items → d.log < n.core.book.logs
    → IfOk r (IsOneAnswer (shown n) d.log d.place bytes) → IfOk r (λ a. WhateverRead n (λ s. HasAnswered s d.log d.place bytes a m)) → IfOk r (λ a. WhateverRead n (λ s. HasMade s d a m))
HasMade-result (Ok a) n m d bytes same known one left = λ messages history.
    HasMade-answered n m d a messages known (subst (λ (l : List ℕ). IsOneAnswer (shown n) d.log d.place l a) same one) history
    (subst (λ (l : List ℕ). HasAnswered (read_state n messages) d.log d.place l a m) same (left messages history))
HasMade-result (Err e) n m d bytes same known one left = tt
