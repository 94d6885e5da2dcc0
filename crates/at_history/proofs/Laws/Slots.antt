-- Slots of the owners of an account: two owners have two.
use Rattle.std.proofs.Common.{◌≡◌, ◌≢◌, ℕ, ◌==◌, get_or, Some, sym, ap, subst, ◌∙◌}
use Rattle.at_history.proofs.Prelude.{eqb-true, position-Some, AccountTerms, slot_in, BookTerms, account_of, HasSlot}

-- two processes have two slots
pub slot_in-injective : (t : AccountTerms) (p q slot : ℕ) → slot_in t p ≡ Some slot → slot_in t q ≡ Some slot → p ≡ q
slot_in-injective t p q slot one other =
    let mine = position-Some (λ (owner : ℕ). owner == p) t.owners slot 0 one in
    let theirs = position-Some (λ (owner : ℕ). owner == q) t.owners slot 0 other in
    sym (eqb-true (get_or t.owners slot 0) p mine.1) ∙ eqb-true (get_or t.owners slot 0) q theirs.1

-- a slot on an account is one process's
pub other_slot : (b : BookTerms) (p q a c slot other : ℕ) → HasSlot b p a slot → HasSlot b q c other → q ≢ p → (c ≡ a) × (other ≡ slot) → ⊥
other_slot b p q a c slot other mine theirs apart same =
    let owner : slot_in (account_of b a) q ≡ Some slot =
    subst (λ k. slot_in (account_of b k) q ≡ Some other) same.0 theirs.owner ∙ ap (λ n. Some n) same.1 in
    apart (slot_in-injective (account_of b a) q p slot owner mine.owner)
