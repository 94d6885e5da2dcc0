-- Closings that a ledger can have left: their journal is a legal run.
use Rattle.std.specs.Prelude.{◌≡◌, ℕ, ◌<◌, ◌≤◌, ◌⊎◌, ◌↔◌, Bool, true, false, ◌&&◌, ◌==◌, List, length, nat_lt, slice_index, count_by, All, Contains}
use Rattle.at_log.specs.Prelude.{Covers, Decision, BookTerms, account_of, TargetPair, amount_of, Entry, Publication, IsCovered, publication_at, place, prefix_of, slots_of, firsts, owns_of, AreTargets, IsSoundOwn, IsSoundRound}
use Rattle.at_log.specs.ClosingTerms.{ClosingTerms, log_lengths, log_of, log_published, receipts_of}
use Rattle.at_log.specs.HeldCuts.{held_cuts}
use Rattle.at_log.specs.JournalOrder.{journal_order}
use Rattle.at_log.specs.Told.{Told}

-- of two held cuts one covers the other, and the lengths of the logs cover all
pub record AreChained (b : BookTerms) (c : ClosingTerms) : Type 0 where
  pub sized : All (λ view. length view ≡ b.processes) (held_cuts c)
  pub chain : (view other : List ℕ) → Contains (held_cuts c) view → Contains (held_cuts c) other → Covers view other ⊎ Covers other view
  pub ends : (view : List ℕ) → Contains (held_cuts c) view → Covers (log_lengths c) view

-- records of one round of one account agree
abbrev pub IsAgreed : ClosingTerms → ℕ → ℕ → Decision → List TargetPair → Type 0
IsAgreed c account round decision targets = (x : Publication) (d : Decision) (ts : List TargetPair) → Contains (journal_order c) x
    → x.entry ≡ Entry.Round account round d ts → (d ≡ decision) × (ts ≡ targets)

-- one of the records of a round has the view from which the decision was proposed, and the decision says whether the balance
-- there covers the request
pub record IsProposed (b : BookTerms) (c : ClosingTerms) (account round : ℕ) (decision : Decision) (targets : List TargetPair) : Type 0 where
  pub winner : Publication
  pub published : Contains (journal_order c) winner
  pub entry : winner.entry ≡ Entry.Round account round decision targets
  pub place : place winner.view ≡ decision.place
  pub ok : (decision.ok ≡ true) ↔ IsCovered b (prefix_of winner.view (journal_order c)) account (amount_of targets)

-- a record of an earlier round of the account that decided a request of this slot
abbrev pub is_earlier_for : ℕ → ℕ → ℕ → Entry → Bool
is_earlier_for account round slot (Entry.Own from targets) = false
is_earlier_for account round slot (Entry.Round on at decision targets) =
    (on == account) && (nat_lt at round && (decision.slot == slot))

-- the decision names the next request of an owner, and that owner has room for it
pub record IsNumbered (b : BookTerms) (c : ClosingTerms) (account round : ℕ) (decision : Decision) : Type 0 where
  pub slot_in : decision.slot < slots_of (account_of b account)
  pub next : count_by (λ x. is_earlier_for account round decision.slot x.entry) (firsts (journal_order c)) ≡ decision.number
  pub room : decision.number < b.request_room

-- the laws of an entry, by its kind
abbrev pub IsCoherentEntry : BookTerms → ClosingTerms → ℕ → List Publication → Entry → Type 0
IsCoherentEntry b c process prefix (Entry.Own from targets) = IsSoundOwn b process prefix from targets
IsCoherentEntry b c process prefix (Entry.Round account round decision targets) =
    IsSoundRound b process prefix account round × AreTargets b targets × IsAgreed c account round decision targets
    × IsProposed b c account round decision targets × IsNumbered b c account round decision

-- the laws of a closing: of its cuts, of each record's view and entry, of own records' number, and of each process's receipts. Held cuts are a
-- chain, each record knows its number, entries have the laws of a sound state in the journal's order, and each process's receipts account for
-- what it has there
pub record Coherent (b : BookTerms) (c : ClosingTerms) : Type 0 where
  pub logs : length c.logs ≡ b.processes
  pub receipts : length c.receipts ≡ b.processes
  pub cuts : AreChained b c
  pub views : (p i : ℕ) → i < length (log_of c p) → slice_index (publication_at (log_published c p) i).view p ≡ i
  pub entries : (p i : ℕ) → i < length (log_of c p) → let x : Publication = publication_at (log_published c p) i in
      IsCoherentEntry b c p (prefix_of x.view (journal_order c)) x.entry
  pub own_room : (p : ℕ) → owns_of p (log_published c p) ≤ b.own_room
  pub told : (p : ℕ) → p < b.processes → Told b p (journal_order c) (receipts_of c p)
