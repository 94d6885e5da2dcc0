-- The plan: the four calls of a process, lists of publications in which all processes keep to it, and the value that is chosen.
use Rattle.std.specs.Prelude.{◌≡◌, ℕ, ◌+◌, ◌-◌, ◌*◌, ◌<◌, ◌≤◌, ◌&&◌, List, [], ◌∷◌, length, nat_le, take, if◌then◌else◌}
use Rattle.at_agree.specs.Prelude.{Decision, publication_at, decided_owner, owns_of, Entry, Own, Round, Publication, TargetPair, Call, Transfer, Read, Balance, calls_of, receipt_at, round_position, Receipt}
use Rattle.at_agree.specs.Council.{council_book, shared_account, spent_account, value_account}

-- what process p asks for from the shared account: at least half of it, and no two of these fit into it, so that one request alone is done, and p + 1 are left then
abbrev pub share_of : ℕ → ℕ → ℕ
share_of k p = 2 * k - (p + 1)

-- the account that the fourth call of process p reads, where the third one has found so much in the shared account
abbrev pub named_account : ℕ → ℕ → ℕ → ℕ
named_account k p left = if nat_le 1 left && nat_le left k then value_account k (left - 1) else value_account k p

-- the four calls of process p with this value, where the third one finds so much
abbrev pub plan_of : ℕ → ℕ → ℕ → ℕ → List Call
plan_of k p value left =
    Transfer p (value_account k p) value
    ∷ Transfer (shared_account k) (spent_account k) (share_of k p)
    ∷ Read (shared_account k)
    ∷ Read (named_account k p left)
    ∷ []

-- the receipts are those of the four calls of process p with this value, and the last one gives the answer
pub record HasVoted (k p value answer : ℕ) (receipts : List Receipt) : Type 0 where
  pub left : ℕ
  pub calls : calls_of receipts ≡ plan_of k p value left
  pub found : (receipt_at receipts 2).reply ≡ Balance left
  pub answered : (receipt_at receipts 3).reply ≡ Balance answer

-- the targets of process p's payment of its value, and of its request
abbrev pub value_targets : ℕ → ℕ → ℕ → List TargetPair
value_targets k p value = (value_account k p, value) ∷ []

abbrev pub share_targets : ℕ → ℕ → List TargetPair
share_targets k p = (spent_account k, share_of k p) ∷ []

-- the process whose slot a decision on the shared account names
abbrev pub winner_of : ℕ → Decision → ℕ
winner_of k decision = decided_owner (council_book k) (shared_account k) decision

-- the list has the own record of process p with this value
pub record HasProposed (k : ℕ) (list : List Publication) (p value : ℕ) : Type 0 where
  pub position : ℕ
  pub within : position < length list
  pub process_is : (publication_at list position).process ≡ p
  pub entry : (publication_at list position).entry ≡ Own p (value_targets k p value)

-- the list has a round of the shared account that decided the request of process p
pub record HasShareDecided (k : ℕ) (list : List Publication) (p : ℕ) : Type 0 where
  pub position : ℕ
  pub within : position < length list
  pub round : ℕ
  pub decision : Decision
  pub entry : (publication_at list position).entry ≡ Round (shared_account k) round decision (share_targets k p)
  pub winner : winner_of k decision ≡ p

-- an own record of a process is that of its value, and a round's is of the request of the process that its decision names, which
-- has proposed before
abbrev pub IsPlanned : ℕ → List Publication → ℕ → Entry → Type 0
IsPlanned k before process (Own from targets) = (value : ℕ) × (from ≡ process) × (targets ≡ value_targets k process value)
IsPlanned k before process (Round account round decision targets) =
    (account ≡ shared_account k) × (targets ≡ share_targets k (winner_of k decision)) × (1 ≤ owns_of (winner_of k decision) before)

-- each publication of the list keeps to the plan
abbrev pub KeepsPlan : ℕ → List Publication → Type 0
KeepsPlan k list = (m : ℕ) → m < length list → let x : Publication = publication_at list m in
    IsPlanned k (take m list) x.process x.entry

-- the process whose request was decided first: the winner of round 0 of the shared account. An own record names no winner, and gives 0
abbrev pub winner_in : ℕ → Entry → ℕ
winner_in k (Own from targets) = 0
winner_in k (Round account round decision targets) = winner_of k decision

-- the process that the first round of the shared account names
abbrev pub chosen : ℕ → List Publication → ℕ
chosen k list = winner_in k (publication_at list (round_position (shared_account k) 0 list)).entry
