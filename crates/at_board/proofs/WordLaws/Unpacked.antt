-- Targets from the words that they were packed into.
use Rattle.std.proofs.Common.{◌≡◌, ℕ, ◌<◌, zero, suc, List, length, get_or, refl, ◌∙◌, arith}
use Rattle.at_board.proofs.Prelude.{get_or-map, get_or_default, length-map, same_lists, TargetPair, ArePacked, accounts_of, amount_words}

-- an amount of a short list
get_or-amount_words : (ts : List TargetPair) (m : ℕ) → m < 4 → get_or (amount_words ts) m 0 ≡ (get_or ts m (0, 0)).1
get_or-amount_words ts zero within = refl
get_or-amount_words ts (suc zero) within = refl
get_or-amount_words ts (suc (suc zero)) within = refl
get_or-amount_words ts (suc (suc (suc zero))) within = refl
get_or-amount_words ts (suc (suc (suc (suc m)))) within = absurd (omega arith)

-- targets that have these accounts and amounts
pub same_targets-get_or : (us ts : List TargetPair) → ArePacked (accounts_of ts) → length us ≡ length ts
    → ((m : ℕ) → m < length us → get_or us m (0, 0) ≡ (get_or (accounts_of ts) m 0, get_or (amount_words ts) m 0)) → us ≡ ts
same_targets-get_or us ts packed sized each = same_lists us ts sized (λ m d within.
    let f : TargetPair → ℕ = λ t. t.0 in
    let there : m < length ts = omega (arith, within, sized) in
    let first : get_or (accounts_of ts) m 0 ≡ (get_or ts m (0, 0)).0 = get_or-map f ts m (0, 0) 0 there in
    let second : get_or (amount_words ts) m 0 ≡ (get_or ts m (0, 0)).1 =
    get_or-amount_words ts m (omega (arith, there, packed.few, length-map ts f)) in
    let pair : get_or us m (0, 0) ≡ get_or ts m (0, 0) = each m within ∙ (λ t. (first t, second t)) in
    get_or_default us m d (0, 0) within ∙ (pair ∙ get_or_default ts m (0, 0) d there))
