-- What a list of a council's publications shows by itself, whether a voice has seen it or it is the journal's order.
use Rattle.std.proofs.Common.{◌≡◌, ℕ, ◌<◌, ◌≤◌, true, false, List, length, take}
use Rattle.at_agree.proofs.Prelude.{Decision, TargetPair, amount_of, IsCovered, publication_at, AgreeOnRound, firsts, named, owns_of, repeats, rounds, Own, Round, Publication, council_book, shared_account}

-- a record of a round of the shared account at a position: its slot is a process, its round is at most the next one there, exactly
-- the rounds before it stand at its decision's place, and where the balance there covers it, it succeeds
pub record IsCouncilRound (k : ℕ) (list : List Publication) (m r : ℕ) (d : Decision) (targets : List TargetPair) : Type 0 where
  pub slot_in : d.slot < k
  pub at_most : r ≤ rounds (shared_account k) (take m list)
  pub place_in : d.place ≤ length list
  pub next : rounds (shared_account k) (take d.place list) ≡ r
  pub ok : IsCovered (council_book k) (take d.place list) (shared_account k) (amount_of targets) → d.ok ≡ true

-- each own record is from its process's own account, each round is of the shared account, records of one round agree, the shared
-- account is never overdrawn, and no process pays twice from its own account
pub record IsCouncilList (k : ℕ) (list : List Publication) : Type 0 where
  pub known : (m : ℕ) → m < length list → (publication_at list m).process < k
  pub own : (m from : ℕ) (targets : List TargetPair) → m < length list → (publication_at list m).entry ≡ Own from targets
      → from ≡ (publication_at list m).process
  pub account : (m a r : ℕ) (d : Decision) (targets : List TargetPair) → m < length list
      → (publication_at list m).entry ≡ Round a r d targets → a ≡ shared_account k
  pub round : (m r : ℕ) (d : Decision) (targets : List TargetPair) → m < length list
      → (publication_at list m).entry ≡ Round (shared_account k) r d targets → IsCouncilRound k list m r d targets
  pub agree : (m n : ℕ) → m < length list → n < length list
      → AgreeOnRound (publication_at list m).entry (publication_at list n).entry
  pub covered : (m : ℕ) → m ≤ length list → IsCovered (council_book k) (take m list) (shared_account k) 0
  pub own_room : (p : ℕ) → owns_of p list ≤ 1

-- no two rounds name one slot: before a new round its slot was named by none
abbrev pub NamesAnew : ℕ → List Publication → Type 0
NamesAnew k list = (m r : ℕ) (d : Decision) (targets : List TargetPair) → m < length list
    → (publication_at list m).entry ≡ Round (shared_account k) r d targets
    → repeats (publication_at list m) (firsts (take m list)) ≡ false → named (shared_account k) d.slot (take m list) ≡ 0
