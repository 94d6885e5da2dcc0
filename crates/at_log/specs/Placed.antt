-- Where a receipt stands in a list of publications, and why its reply is right there.
use Rattle.std.specs.Prelude.{◌≡◌, ℕ, ◌<◌, Bool, true, false, ◌&&◌, ◌||◌, ◌==◌, List, count_by, length, take, Some, if◌then◌else◌}
use Rattle.at_log.specs.Prelude.{Decision, is_shared, is_single, slot_in, BookTerms, account_of, is_owner, TargetPair, amount_of, payout_of, Read, Done, Short, NotOwner, Full, Balance, Entry, Publication, balance_after, publication_at, is_own, IsCut, prefix_of, count_of, publications_of}
use Rattle.at_log.specs.declared.receipt.At.{At}
use Rattle.at_log.specs.declared.receipt.Receipt.{Receipt}
use Rattle.at_log.specs.Receipts.{asks_in, owns_in}

-- after these receipts an owner has used up its room at the source
abbrev pub has_no_room : BookTerms → ℕ → List Receipt → Bool
has_no_room b source earlier =
    (is_single (account_of b source) && (owns_in earlier == b.own_room))
    || (is_shared (account_of b source) && (asks_in source earlier == b.request_room))

-- the receipt stands at a cut of the list, whose prefix has this balance
pub record IsAtCut (b : BookTerms) (list : List Publication) (account amount : ℕ) (r : Receipt) : Type 0 where
  pub view : List ℕ
  pub cut : IsCut b.processes view list
  pub at : r.at ≡ At.Cut view
  pub balance : balance_after b (prefix_of view list) account ≡ amount

-- the receipt stands at an own record of its process, which is the next one and moves just this
pub record IsAtOwn (process : ℕ) (list : List Publication) (earlier : List Receipt) (source : ℕ) (targets : List TargetPair) (r : Receipt) : Type 0 where
  pub number : ℕ
  pub within : number < count_of process list
  pub at : r.at ≡ At.Own number
  pub entry : (publication_at (publications_of process list) number).entry ≡ Entry.Own source targets
  pub next : count_by (λ x. is_own x.entry) (take number (publications_of process list)) ≡ owns_in earlier

-- the receipt stands in a round of the source that decided the next request of the process, with these targets
pub record IsAtRound (b : BookTerms) (process : ℕ) (list : List Publication) (earlier : List Receipt) (source : ℕ) (targets : List TargetPair) (r : Receipt) : Type 0 where
  pub round : ℕ
  pub decision : Decision
  pub position : ℕ
  pub within : position < length list
  pub at : r.at ≡ At.Round round decision.place
  pub entry : (publication_at list position).entry ≡ Entry.Round source round decision targets
  pub slot : slot_in (account_of b source) process ≡ Some decision.slot
  pub next : decision.number ≡ asks_in source earlier
  pub reply : r.reply ≡ (if decision.ok then Done else Short)

-- the process owns the source of its pay-out, and has room there
pub record MayPay (b : BookTerms) (process : ℕ) (earlier : List Receipt) (source : ℕ) (targets : List TargetPair) (r : Receipt) : Type 0 where
  pub call : payout_of r.call ≡ Some (source, targets)
  pub owner : is_owner b process source ≡ true
  pub room : has_no_room b source earlier ≡ false

-- a receipt that is right in a list, after the earlier receipts of its process. One of six cases, each with the reason of its reply
pub data IsPlaced (b : BookTerms) (process : ℕ) (list : List Publication) (earlier : List Receipt) (r : Receipt) : Type 0 where
  read : (account balance : ℕ) → r.call ≡ Read account → r.reply ≡ Balance balance → IsAtCut b list account balance r
      → IsPlaced b process list earlier r
  not_owner : (source : ℕ) (targets : List TargetPair) → payout_of r.call ≡ Some (source, targets) → is_owner b process source ≡ false
      → r.reply ≡ NotOwner → r.at ≡ At.Previous → IsPlaced b process list earlier r
  full : (source : ℕ) (targets : List TargetPair) → payout_of r.call ≡ Some (source, targets) → is_owner b process source ≡ true
      → has_no_room b source earlier ≡ true → r.reply ≡ Full → r.at ≡ At.Previous → IsPlaced b process list earlier r
  short : (source balance : ℕ) (targets : List TargetPair) → MayPay b process earlier source targets r → is_single (account_of b source) ≡ true
      → r.reply ≡ Short → IsAtCut b list source balance r → balance < amount_of targets → IsPlaced b process list earlier r
  done : (source : ℕ) (targets : List TargetPair) → MayPay b process earlier source targets r → is_single (account_of b source) ≡ true
      → r.reply ≡ Done → IsAtOwn process list earlier source targets r → IsPlaced b process list earlier r
  round : (source : ℕ) (targets : List TargetPair) → MayPay b process earlier source targets r → is_shared (account_of b source) ≡ true
      → IsAtRound b process list earlier source targets r → IsPlaced b process list earlier r
