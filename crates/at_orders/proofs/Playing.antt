-- The accounts that a payment names.
use Rattle.std.proofs.Common.{◌≡◌, ℕ, ◌<◌, ◌⊎◌, ⊎_elim, inl, inr, List, [], ◌∷◌, Some, sym, ap, subst, ◌∙◌}
use Rattle.at_orders.proofs.Prelude.{IsCallOn, TargetPair, payout_of, Call, Transfer, Read, Pay, IsTarget, Names}

-- what a payment names
pub names-pays : (c : Call) (source : ℕ) (targets : List TargetPair) (a : ℕ) → payout_of c ≡ Some (source, targets) → Names c a → (source ≡ a) ⊎ IsTarget targets a
unfolding Names
names-pays (Transfer from to amount) source targets a is names =
    let pair : (from, (to, amount) ∷ []) ≡ (source, targets) = cc in
    ⊎_elim (λ same. inl (sym (ap (λ (x : ℕ × List TargetPair). x.0) pair) ∙ same))
    (λ target. inr (subst (λ (ts : List TargetPair). IsTarget ts a) (ap (λ (x : ℕ × List TargetPair). x.1) pair) target)) names
names-pays (Read d) source targets a is names = absurd names
names-pays (Pay from ts) source targets a is names =
    let pair : (from, ts) ≡ (source, targets) = cc in
    ⊎_elim (λ same. inl (sym (ap (λ (x : ℕ × List TargetPair). x.0) pair) ∙ same))
    (λ target. inr (subst (λ (xs : List TargetPair). IsTarget xs a) (ap (λ (x : ℕ × List TargetPair). x.1) pair) target)) names

pub source-in : (n : ℕ) (c : Call) (source : ℕ) (targets : List TargetPair) → payout_of c ≡ Some (source, targets) → IsCallOn n c → source < n
source-in n (Transfer from to amount) source targets is on =
    let pair : (from, (to, amount) ∷ []) ≡ (source, targets) = cc in
    subst (λ (k : ℕ). k < n) (ap (λ (x : ℕ × List TargetPair). x.0) pair) on.0
source-in n (Read d) source targets is on = absurd (cc)
source-in n (Pay from ts) source targets is on =
    let pair : (from, ts) ≡ (source, targets) = cc in
    subst (λ (k : ℕ). k < n) (ap (λ (x : ℕ × List TargetPair). x.0) pair) on.0

-- a payment names its source
pub names-source : (c : Call) (source : ℕ) (targets : List TargetPair) → payout_of c ≡ Some (source, targets) → Names c source
unfolding Names
names-source (Transfer from to amount) source targets is =
    let pair : (from, (to, amount) ∷ []) ≡ (source, targets) = cc in
    inl (ap (λ (x : ℕ × List TargetPair). x.0) pair)
names-source (Read d) source targets is = absurd (cc)
names-source (Pay from ts) source targets is =
    let pair : (from, ts) ≡ (source, targets) = cc in
    inl (ap (λ (x : ℕ × List TargetPair). x.0) pair)

-- and these names are all
pub names-from : (c : Call) (source : ℕ) (targets : List TargetPair) (a : ℕ) → payout_of c ≡ Some (source, targets) → (source ≡ a) ⊎ IsTarget targets a → Names c a
unfolding Names
names-from (Transfer from to amount) source targets a is names =
    let pair : (from, (to, amount) ∷ []) ≡ (source, targets) = cc in
    ⊎_elim (λ same. inl (ap (λ (x : ℕ × List TargetPair). x.0) pair ∙ same))
    (λ target. inr (subst (λ (ts : List TargetPair). IsTarget ts a) (sym (ap (λ (x : ℕ × List TargetPair). x.1) pair)) target)) names
names-from (Read d) source targets a is names = absurd (cc is)
names-from (Pay from ts) source targets a is names =
    let pair : (from, ts) ≡ (source, targets) = cc in
    ⊎_elim (λ same. inl (ap (λ (x : ℕ × List TargetPair). x.0) pair ∙ same))
    (λ target. inr (subst (λ (xs : List TargetPair). IsTarget xs a) (sym (ap (λ (x : ℕ × List TargetPair). x.1) pair)) target)) names
