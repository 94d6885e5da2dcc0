-- Receipts that account for all that a process has, after one more call: by where its receipt stands.
use Rattle.std.proofs.Common.{◌≡◌, ◌≢◌, ℕ, ◌+◌, ◌*◌, ◌≤◌, ◌⊎◌, true, false, Some, List, [], ◌∷◌, ◌++◌, length, sym, ap, subst, arith, inl, inr}
use Rattle.at_log.proofs.Prelude.{cases_eq, length-take, BookTerms, HasSlot, TargetPair, payout_of, IsPrefix-length, one_if, place, prefix_of, IsHistory, IsPrefix, named, owns_of, Publication, IsPlaced, asks_in, is_at_own, is_at_round, Told, key_of, Previous, Receipt}
use Rattle.at_log.proofs.LeftLaws.Counts.{asks_in-push_elsewhere, asks_in-push_source, asks_in-push_still, owns_in-push}
use Rattle.at_log.proofs.LeftLaws.Told.{Told-call}

-- the receipt of a call stands in the list after it behind all that stood before it, or with the receipt before it
abbrev pub StandsBehind : ℕ → List Publication → List Publication → Receipt → Type 0
StandsBehind p list more r = (r.at ≡ Previous) ⊎ ((previous : ℕ) → 2 * length list ≤ key_of p more previous r)

-- a cut that begins with a list counts at least as many
pub length-prefix_of-le : (view : List ℕ) (list more : List Publication) → IsPrefix list (prefix_of view more) → length list ≤ place view
length-prefix_of-le view list more begins =
    omega (arith, IsPrefix-length list (prefix_of view more) begins, length-take (place view) more)

-- so a receipt that stands at or after such a cut stands so
pub StandsBehind-cut : (p : ℕ) (list more : List Publication) (r : Receipt) (cut : List ℕ) → IsPrefix list (prefix_of cut more)
    → ((previous : ℕ) → 2 * place cut ≤ key_of p more previous r) → StandsBehind p list more r
StandsBehind-cut p list more r cut begins after =
    inr (λ previous. omega (arith, length-prefix_of-le cut list more begins, after previous))

module _ (b : BookTerms) (p : ℕ) (list more : List Publication) (receipts : List Receipt) (r : Receipt) (history : IsHistory b list)
    (before : IsPrefix list more) (told : Told b p list receipts) (placed : IsPlaced b p more receipts r)
    (behind : StandsBehind p list more r) where
  -- at a cut, or with the receipt before it: the process has no more own records and no more rounds
  pub Told-still : is_at_own r.at ≡ false → is_at_round r.at ≡ false → owns_of p more ≡ owns_of p list
      → ((a slot : ℕ) → HasSlot b p a slot → named a slot more ≡ named a slot list) → Told b p more (receipts ++ r ∷ [])
  Told-still no_own no_round owns named_same =
      Told-call b p list more receipts r history before told placed behind
      (omega (arith, owns, told.owns, owns_in-push receipts r, ap one_if no_own))
      (λ a slot has. omega (arith, named_same a slot has, told.asks a slot has, asks_in-push_still a receipts r no_round))

  -- at an own record: the process has one own record more
  pub Told-own : is_at_own r.at ≡ true → is_at_round r.at ≡ false → owns_of p more ≡ owns_of p list + 1
      → ((a slot : ℕ) → HasSlot b p a slot → named a slot more ≡ named a slot list) → Told b p more (receipts ++ r ∷ [])
  Told-own own no_round owns named_same =
      Told-call b p list more receipts r history before told placed behind
      (omega (arith, owns, told.owns, owns_in-push receipts r, ap one_if own))
      (λ a slot has. omega (arith, named_same a slot has, told.asks a slot has, asks_in-push_still a receipts r no_round))

  -- in a round: one round more names the process's slot on the source, and none another of its slots
  pub Told-round : (source : ℕ) (targets : List TargetPair) → is_at_own r.at ≡ false → is_at_round r.at ≡ true
      → payout_of r.call ≡ Some (source, targets) → owns_of p more ≡ owns_of p list
      → ((slot : ℕ) → HasSlot b p source slot → named source slot more ≡ named source slot list + 1)
      → ((a slot : ℕ) → a ≢ source → HasSlot b p a slot → named a slot more ≡ named a slot list) → Told b p more (receipts ++ r ∷ [])
  Told-round source targets no_own in_round call owns named_more named_same =
      Told-call b p list more receipts r history before told placed behind
      (omega (arith, owns, told.owns, owns_in-push receipts r, ap one_if no_own))
      (λ a slot has.
      elim (cases_eq a source) as (λ _. named a slot more ≡ asks_in a (receipts ++ r ∷ [])) [
        | inl same ↦
            let here : HasSlot b p source slot = subst (λ k. HasSlot b p k slot) same has in
            let counted : named source slot more ≡ asks_in source (receipts ++ r ∷ []) =
            omega (arith, named_more slot here, told.asks source slot here, asks_in-push_source receipts r source targets in_round call) in
            subst (λ k. named k slot more ≡ asks_in k (receipts ++ r ∷ [])) (sym same) counted
        | inr apart ↦
            omega (arith, named_same a slot apart has, told.asks a slot has, asks_in-push_elsewhere a receipts r source targets call apart)
      ])
