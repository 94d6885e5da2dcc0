-- Two lists beside one another, of which the first few are used: the accounts and the amounts of targets.
use Rattle.std.proofs.Common.{◌≡◌, ℕ, zero, suc, ◌+◌, ◌<◌, ◌≤◌, List, [], ◌∷◌, ◌++◌, length, take, set, get_or, refl, ap, ◌∙◌, arith, length-take}
use Rattle.at_ledger.proofs.Prelude.{zip, get_or-take, take_more_set, sum_by_more, get_or-zip, length-zip, amount_of, target_at}

pub length-zip_cut : {A B : Type 0} → (n : ℕ) (xs : List A) (ys : List B) → n ≤ length xs → n ≤ length ys → length (take n (zip xs ys)) ≡ n
length-zip_cut n xs ys wide long =
    let both = length-zip xs ys in
    let split = length-take n (zip xs ys) in
    omega arith

pub target_at-zip_cut : (n : ℕ) (xs ys : List ℕ) (i : ℕ) → i < n → n ≤ length xs → n ≤ length ys → target_at (take n (zip xs ys)) i ≡ (get_or xs i 0, get_or ys i 0)
target_at-zip_cut n xs ys i below wide long =
    get_or-take n (zip xs ys) i (0, 0) below ∙ get_or-zip xs ys i (0, 0) (omega arith) (omega arith)

zip-set : {A B : Type 0} → (xs : List A) (ys : List B) (i : ℕ) (x : A) (y : B) → zip (set xs i x) (set ys i y) ≡ set (zip xs ys) i (x, y)
zip-set [] ys i x y = refl
zip-set (a ∷ xs) [] zero x y = refl
zip-set (a ∷ xs) [] (suc i) x y = refl
zip-set (a ∷ xs) (b ∷ ys) zero x y = refl
zip-set (a ∷ xs) (b ∷ ys) (suc i) x y = ap (λ l. (a, b) ∷ l) (zip-set xs ys i x y)

pub zip_cut-push : {A B : Type 0} → (n : ℕ) (xs : List A) (ys : List B) (x : A) (y : B) → n < length xs → n < length ys → take (n + 1) (zip (set xs n x) (set ys n y)) ≡ take n (zip xs ys) ++ (x, y) ∷ []
zip_cut-push n xs ys x y wide long =
    let both = length-zip xs ys in
    ap (take (n + 1)) (zip-set xs ys n x y) ∙ take_more_set (zip xs ys) n (x, y) (omega arith)

pub amount_of-zip_more : (n : ℕ) (xs ys : List ℕ) → n < length xs → n < length ys → amount_of (take (n + 1) (zip xs ys)) ≡ amount_of (take n (zip xs ys)) + get_or ys n 0
amount_of-zip_more n xs ys wide long =
    let both = length-zip xs ys in
    let read = get_or-zip xs ys n (0, 0) wide long in
    sum_by_more (λ (t : ℕ × ℕ). t.1) (zip xs ys) n (0, 0) (omega arith) ∙ ap (λ (t : ℕ × ℕ). amount_of (take n (zip xs ys)) + t.1) read
