-- Two calls with places and one key: where their processes differ, neither moved.
use Rattle.std.proofs.Common.{◌≡◌, ◌≢◌, ℕ, ◌+◌, ◌*◌, ◌<◌, true, false, List, length, take, sym, ap, ◌∙◌, inl, inr}
use Rattle.at_journal.proofs.Prelude.{cases_Bool, BookTerms, first_account, Publication, ClosingTerms, receipts_of, Coherent, journal_order, line_key, IsPlaced, read, not_owner, full, short, done, round, is_success, receipt_at, key_at, own_position, round_position, Previous, Receipt, key_at-odd, line_key-receipt, previous_key}
use Rattle.at_journal.proofs.BucketRuns.{move_of}
use Rattle.at_journal.proofs.SameMove.{IsMove, IsMove-process}
use Rattle.at_journal.proofs.StepCases.{lacks_place}

-- a receipt whose reply says that it has a place has one
pub has_place : (b : BookTerms) (p : ℕ) (list : List Publication) (earlier : List Receipt) (r : Receipt) → IsPlaced b p list earlier r
    → lacks_place r.reply ≡ false → r.at ≢ Previous
has_place b p list earlier r (read account amount call reply cut) told none = cc (cut.at, none)
has_place b p list earlier r (not_owner source targets call owner reply at) told none = absurd (cc (told, ap lacks_place reply))
has_place b p list earlier r (full source targets call owner room reply at) told none = absurd (cc (told, ap lacks_place reply))
has_place b p list earlier r (short source amount targets may single reply cut less) told none = cc (cut.at, none)
has_place b p list earlier r (done source targets may single reply own) told none = cc (own.at, none)
has_place b p list earlier r (round source targets may shared so) told none = cc (so.at, none)

-- a call that moved has an odd key
key_of-moved : (b : BookTerms) (c : ClosingTerms) (p i : ℕ) → i < length (receipts_of c p)
    → IsPlaced b p (journal_order c) (take i (receipts_of c p)) (receipt_at (receipts_of c p) i) → is_success (receipt_at (receipts_of c p) i).reply ≡ true
    → (m : ℕ) × (line_key c p i ≡ 2 * m + 1)
key_of-moved b c p i within (read account amount call reply cut) moved = absurd (cc (moved, ap is_success reply))
key_of-moved b c p i within (not_owner source targets call owner reply at) moved = absurd (cc (moved, ap is_success reply))
key_of-moved b c p i within (full source targets call owner room reply at) moved = absurd (cc (moved, ap is_success reply))
key_of-moved b c p i within (short source amount targets may single reply cut less) moved = absurd (cc (moved, ap is_success reply))
key_of-moved b c p i within (done source targets may single reply own) moved =
    let r = receipt_at (receipts_of c p) i in (
      own_position p own.number (journal_order c),
      line_key-receipt c p i within ∙ ap (key_at p (journal_order c) (previous_key c p i) r.call (is_success r.reply)) own.at,
    )
key_of-moved b c p i within (round source targets may shared so) moved =
    let r = receipt_at (receipts_of c p) i in (
      round_position (first_account r.call) so.round (journal_order c),
      line_key-receipt c p i within ∙ (λ t. key_at p (journal_order c) (previous_key c p i) r.call (moved t) (so.at t)),
    )

-- a call with an odd key and a place is the move of its publication
move_of-odd : (b : BookTerms) (c : ClosingTerms) (p i m : ℕ) → Coherent b c → p < b.processes → i < length (receipts_of c p)
    → lacks_place (receipt_at (receipts_of c p) i).reply ≡ false → line_key c p i ≡ 2 * m + 1 → IsMove b c p i m
move_of-odd b c p i m coherent known within told key =
    let r = receipt_at (receipts_of c p) i in
    let order = journal_order c in
    let placed = (coherent.told p known).placed i within in
    elim (key_at-odd m p order (previous_key c p i) r.call (is_success r.reply) r.at (sym (line_key-receipt c p i within) ∙ key)) as (λ _. IsMove b c p i m) [
      | inl moves ↦ move_of b c p i m coherent placed moves
      | inr previous ↦ absurd (has_place b p order (take i (receipts_of c p)) r placed told previous.0)
    ]

pub unmoved-same_key : (b : BookTerms) (c : ClosingTerms) (p q i j : ℕ) → Coherent b c → p < b.processes → q < b.processes
    → i < length (receipts_of c p) → j < length (receipts_of c q) → p ≢ q
    → lacks_place (receipt_at (receipts_of c p) i).reply ≡ false → lacks_place (receipt_at (receipts_of c q) j).reply ≡ false
    → line_key c p i ≡ line_key c q j → is_success (receipt_at (receipts_of c p) i).reply ≡ false
unmoved-same_key b c p q i j coherent known other within there apart one two same =
    elim (cases_Bool (is_success (receipt_at (receipts_of c p) i).reply)) as (λ _. is_success (receipt_at (receipts_of c p) i).reply ≡ false) [
      | inr still ↦ still
      | inl moved ↦
          let odd = key_of-moved b c p i within ((coherent.told p known).placed i within) moved in
          absurd (apart (IsMove-process b c p q i j odd.0 (move_of-odd b c p i odd.0 coherent known within one odd.1)
          (move_of-odd b c q j odd.0 coherent other there two (sym same ∙ odd.1))))
    ]
