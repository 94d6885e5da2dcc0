-- What a function gives of each element of a list, one after another.
use Rattle.std.proofs.Common.{◌≡◌, ℕ, ◌+◌, ◌<◌, ◌∙◌, Bool, true, false, cond, List, [], ◌∷◌, ◌++◌, filter, flat_map, length, take, get_or, ap, append_assoc, append-nil, arith, refl, sym}
use Rattle.at_pages.proofs.Prelude.{range_with_len, flat_map-append, map-id, take_more, filter-append, map-range_with_len_more}

pub flat_map-push : {X Y : Type 0} (f : X → List Y) (xs : List X) (x : X) → flat_map f (xs ++ x ∷ []) ≡ flat_map f xs ++ f x
flat_map-push {Y} f xs x = flat_map-append f xs (x ∷ []) ∙ ap (λ (text : List Y). flat_map f xs ++ text) (append-nil (f x))

-- one number more
pub range-more : (n : ℕ) → range_with_len 0 (n + 1) ≡ range_with_len 0 n ++ n ∷ []
range-more n =
    sym (map-id (range_with_len 0 (n + 1))) ∙ (map-range_with_len_more (λ (i : ℕ). i) 0 n n (omega arith)
    ∙ ap (λ (xs : List ℕ). xs ++ n ∷ []) (map-id (range_with_len 0 n)))

-- which of the first numbers are kept, and whether the next one is
filter-one : (P : ℕ → Bool) (n : ℕ) → filter P (n ∷ []) ≡ cond (P n) (n ∷ []) []
filter-one P n = elim (P n) as (λ b. cond b (n ∷ []) [] ≡ cond b (n ∷ []) []) [ true ↦ refl | false ↦ refl ]

pub filter-range_more : (P : ℕ → Bool) (n : ℕ) → filter P (range_with_len 0 (n + 1)) ≡ filter P (range_with_len 0 n) ++ cond (P n) (n ∷ []) []
filter-range_more P n =
    ap (filter P) (range-more n) ∙ (filter-append P (range_with_len 0 n) (n ∷ []) ∙ ap (λ (xs : List ℕ). filter P (range_with_len 0 n) ++ xs) (filter-one P n))

-- what is given of the first numbers, and of the next one
pub flat_map-range_more : {Y : Type 0} (f : ℕ → List Y) (out : List Y) (n : ℕ)
    → (out ++ flat_map f (range_with_len 0 n)) ++ f n ≡ out ++ flat_map f (range_with_len 0 (n + 1))
flat_map-range_more f out n =
    rw (range-more n, flat_map-push f (range_with_len 0 n) n) (append_assoc out (flat_map f (range_with_len 0 n)) (f n))

-- what is given of the first elements, and of the next one
pub flat_map-take_more : {X Y : Type 0} (f : X → List Y) (out : List Y) (xs : List X) (i : ℕ) (d : X) → i < length xs
    → (out ++ flat_map f (take i xs)) ++ f (get_or xs i d) ≡ out ++ flat_map f (take (i + 1) xs)
flat_map-take_more f out xs i d within =
    rw (take_more xs i d within, flat_map-push f (take i xs) (get_or xs i d)) (append_assoc out (flat_map f (take i xs)) (f (get_or xs i d)))

-- the same of an element that is the next one
pub flat_map-item_more : {X Y : Type 0} (f : X → List Y) (out : List Y) (xs : List X) (i : ℕ) (x : X) → i < length xs → x ≡ get_or xs i x
    → (out ++ flat_map f (take i xs)) ++ f x ≡ out ++ flat_map f (take (i + 1) xs)
flat_map-item_more f out xs i x within is =
    ap (λ y. (out ++ flat_map f (take i xs)) ++ f y) is ∙ flat_map-take_more f out xs i x within
