-- Lists of which each element, or each two in turn, have a property.
use Rattle.std.proofs.Common.{◌≡◌, ℕ, ◌+◌, ◌<◌, ◌≤◌, ◌⊎◌, zero, suc, Bool, true, false, cond, List, [], ◌∷◌, ◌++◌, length, map, filter, get_or, refl, sym, ap, subst, arith, inl, inr}
use Rattle.at_journal.proofs.Prelude.{flat_map, range_with_len, cases_Bool, cases_lt}

-- each element has the property
unfoldable pub Each : {X : Type 0} → (X → Type 0) → List X → Type 0
Each P [] = Unit {0}
Each P (x ∷ xs) = P x × Each P xs

-- each element is so related to those behind it
unfoldable pub Pairwise : {X : Type 0} → (X → X → Type 0) → List X → Type 0
Pairwise R [] = Unit {0}
Pairwise R (x ∷ xs) = Each (R x) xs × Pairwise R xs

pub Each-weaker : {X : Type 0} (P Q : X → Type 0) (xs : List X) → ((x : X) → P x → Q x) → Each P xs → Each Q xs
unfolding Each
Each-weaker P Q [] weaker each = tt
Each-weaker P Q (x ∷ xs) weaker each = (weaker x each.0, Each-weaker P Q xs weaker each.1)

pub Each-both : {X : Type 0} (P Q : X → Type 0) (xs : List X) → Each P xs → Each Q xs → Each (λ x. P x × Q x) xs
unfolding Each
Each-both P Q [] one two = tt
Each-both P Q (x ∷ xs) one two = ((one.0, two.0), Each-both P Q xs one.1 two.1)

pub Each-append : {X : Type 0} (P : X → Type 0) (xs ys : List X) → Each P xs → Each P ys → Each P (xs ++ ys)
unfolding Each
Each-append P [] ys one two = two
Each-append P (x ∷ xs) ys one two = (one.0, Each-append P xs ys one.1 two)

pub Each-before : {X : Type 0} (P : X → Type 0) (xs ys : List X) → Each P (xs ++ ys) → Each P xs
unfolding Each
Each-before P [] ys each = tt
Each-before P (x ∷ xs) ys each = (each.0, Each-before P xs ys each.1)

pub Each-middle : {X : Type 0} (P : X → Type 0) (xs : List X) (y : X) (ys : List X) → Each P (xs ++ y ∷ ys) → P y
unfolding Each
Each-middle P [] y ys each = each.0
Each-middle P (x ∷ xs) y ys each = Each-middle P xs y ys each.1

pub Each-without : {X : Type 0} (P : X → Type 0) (xs : List X) (y : X) (ys : List X) → Each P (xs ++ y ∷ ys) → Each P (xs ++ ys)
unfolding Each
Each-without P [] y ys each = each.1
Each-without P (x ∷ xs) y ys each = (each.0, Each-without P xs y ys each.1)

pub Each-get_or : {X : Type 0} (P : X → Type 0) (xs : List X) → Each P xs → (i : ℕ) (d : X) → i < length xs → P (get_or xs i d)
unfolding Each
Each-get_or P [] each i d within = absurd (omega (arith, within))
Each-get_or P (x ∷ xs) each zero d within = each.0
Each-get_or P (x ∷ xs) each (suc i) d within = Each-get_or P xs each.1 i d (omega (arith, within))

pub Pairwise-append : {X : Type 0} (R : X → X → Type 0) (xs ys : List X) → Pairwise R xs → Pairwise R ys → Each (λ x. Each (R x) ys) xs → Pairwise R (xs ++ ys)
unfolding Each Pairwise
Pairwise-append R [] ys one two cross = two
Pairwise-append R (x ∷ xs) ys one two cross = (Each-append (R x) xs ys one.0 cross.0, Pairwise-append R xs ys one.1 two cross.1)

pub Pairwise-before : {X : Type 0} (R : X → X → Type 0) (xs : List X) (y : X) (ys : List X) → Pairwise R (xs ++ y ∷ ys) → Each (λ x. R x y) xs
unfolding Each Pairwise
Pairwise-before R [] y ys pairs = tt
Pairwise-before R (x ∷ xs) y ys pairs = (Each-middle (R x) xs y ys pairs.0, Pairwise-before R xs y ys pairs.1)

pub Pairwise-without : {X : Type 0} (R : X → X → Type 0) (xs : List X) (y : X) (ys : List X) → Pairwise R (xs ++ y ∷ ys) → Pairwise R (xs ++ ys)
unfolding Each Pairwise
Pairwise-without R [] y ys pairs = pairs.1
Pairwise-without R (x ∷ xs) y ys pairs = (Each-without (R x) xs y ys pairs.0, Pairwise-without R xs y ys pairs.1)

-- lists one after another
pub Each-flat_map : {X : Type 0} (P : X → Type 0) (g : ℕ → List X) (a n : ℕ) → ((k : ℕ) → a ≤ k → k < a + n → Each P (g k))
    → Each P (flat_map g (range_with_len a n))
unfolding Each
Each-flat_map P g a zero each = tt
Each-flat_map P g a (suc n) each =
    Each-append P (g a) (flat_map g (range_with_len (a + 1) n)) (each a (omega arith) (omega arith))
    (Each-flat_map P g (a + 1) n (λ k from to. each k (omega (arith, from)) (omega (arith, to))))

pub Pairwise-flat_map : {X : Type 0} (R : X → X → Type 0) (In : ℕ → X → Type 0) (g : ℕ → List X) (a n : ℕ)
    → ((k : ℕ) → a ≤ k → k < a + n → Each (In k) (g k)) → ((k : ℕ) → a ≤ k → k < a + n → Pairwise R (g k))
    → ((k l : ℕ) → k < l → (x y : X) → In k x → In l y → R x y) → Pairwise R (flat_map g (range_with_len a n))
unfolding Each Pairwise
Pairwise-flat_map R In g a zero each pairs cross = tt
Pairwise-flat_map R In g a (suc n) each pairs cross =
    Pairwise-append R (g a) (flat_map g (range_with_len (a + 1) n)) (pairs a (omega arith) (omega arith))
    (Pairwise-flat_map R In g (a + 1) n (λ k from to. each k (omega (arith, from)) (omega (arith, to))) (λ k from to. pairs k (omega (arith, from)) (omega (arith, to))) cross)
    (Each-weaker (In a) (λ x. Each (R x) (flat_map g (range_with_len (a + 1) n))) (g a)
    (λ x here. Each-flat_map (R x) g (a + 1) n
    (λ l from to. Each-weaker (In l) (R x) (g l) (λ y there. cross a l (omega (arith, from)) x y here there) (each l (omega (arith, from)) (omega (arith, to)))))
    (each a (omega arith) (omega arith)))

-- values of the numbers that pass
pub Each-values : {X : Type 0} (P : X → Type 0) (f : ℕ → X) (test : ℕ → Bool) (a n : ℕ) → ((i : ℕ) → a ≤ i → i < a + n → test i ≡ true → P (f i))
    → Each P (map f (filter test (range_with_len a n)))
unfolding Each
Each-values P f test a zero each = tt
Each-values P f test a (suc n) each =
    let rest = filter test (range_with_len (a + 1) n) in
    let behind : Each P (map f rest) = Each-values P f test (a + 1) n (λ i from to. each i (omega (arith, from)) (omega (arith, to))) in
    elim (cases_Bool (test a)) as (λ _. Each P (map f (cond (test a) (a ∷ rest) rest))) [
      | inl passes ↦ subst (λ (t : Bool). Each P (map f (cond t (a ∷ rest) rest))) (sym passes) (each a (omega arith) (omega arith) passes, behind)
      | inr fails ↦ subst (λ (t : Bool). Each P (map f (cond t (a ∷ rest) rest))) (sym fails) behind
    ]

pub Pairwise-values : {X : Type 0} (R : X → X → Type 0) (f : ℕ → X) (test : ℕ → Bool) (a n : ℕ)
    → ((i j : ℕ) → a ≤ i → i < j → j < a + n → test i ≡ true → test j ≡ true → R (f i) (f j)) → Pairwise R (map f (filter test (range_with_len a n)))
unfolding Each Pairwise
Pairwise-values R f test a zero pairs = tt
Pairwise-values R f test a (suc n) pairs =
    let rest = filter test (range_with_len (a + 1) n) in
    let behind : Pairwise R (map f rest) = Pairwise-values R f test (a + 1) n (λ i j from less to. pairs i j (omega (arith, from)) less (omega (arith, to))) in
    elim (cases_Bool (test a)) as (λ _. Pairwise R (map f (cond (test a) (a ∷ rest) rest))) [
      | inl passes ↦
          subst (λ (t : Bool). Pairwise R (map f (cond t (a ∷ rest) rest))) (sym passes)
          (Each-values (R (f a)) f test (a + 1) n (λ j from to. pairs a j (omega arith) (omega (arith, from)) (omega (arith, to)) passes), behind)
      | inr fails ↦ subst (λ (t : Bool). Pairwise R (map f (cond t (a ∷ rest) rest))) (sym fails) behind
    ]

-- an element that passes, of the least value of those that pass
pub record Least {X : Type 0} (test : X → Bool) (value : X → ℕ) (xs : List X) : Type 0 where
  pub before : List X
  pub at : X
  pub after : List X
  pub is : xs ≡ before ++ at ∷ after
  pub passes : test at ≡ true
  pub least : Each (λ x. test x ≡ true → value at ≤ value x) xs

pub find_least : {X : Type 0} (test : X → Bool) (value : X → ℕ) (xs : List X) → Each (λ x. test x ≡ false) xs ⊎ Least test value xs
unfolding Each
find_least test value [] = inl tt
find_least {X} test value (x ∷ xs) =
    let Goal : Type 0 = Each (λ y. test y ≡ false) (x ∷ xs) ⊎ Least test value (x ∷ xs) in
    let here : test x ≡ true → Each (λ y. test y ≡ true → value x ≤ value y) xs → Goal =
    λ passes rest. inr (record { before = []; at = x; after = xs; is = refl; passes = passes; least = ((λ _. omega arith), rest) }) in
    let there : (found : Least test value xs) → (test x ≡ true → value found.at ≤ value x) → Goal =
    λ found more. inr (record {
      before = x ∷ found.before;
      at = found.at;
      after = found.after;
      is = ap (λ ys. x ∷ ys) found.is;
      passes = found.passes;
      least = (more, found.least);
    }) in
    elim (find_least test value xs) as (λ _. Goal) [
      | inl none ↦
          elim (cases_Bool (test x)) as (λ _. Goal) [
            | inl passes ↦
                here passes (Each-weaker (λ y. test y ≡ false) (λ y. test y ≡ true → value x ≤ value y) xs (λ y fails so. absurd (cc (fails, so))) none)
            | inr fails ↦ inl (fails, none)
          ]
      | inr found ↦
          elim (cases_Bool (test x)) as (λ _. Goal) [
            | inr fails ↦ there found (λ so. absurd (cc (fails, so)))
            | inl passes ↦
                elim (cases_lt (value x) (value found.at)) as (λ _. Goal) [
                  | inl less ↦
                      here passes
                      (Each-weaker (λ y. test y ≡ true → value found.at ≤ value y) (λ y. test y ≡ true → value x ≤ value y) xs
                      (λ y more so. omega (arith, less, more so)) found.least)
                  | inr more ↦ there found (λ _. more)
                ]
          ]
    ]
