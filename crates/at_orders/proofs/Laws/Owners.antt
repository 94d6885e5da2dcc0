-- What the owners of an account ask of it is what all files ask.
use Rattle.std.proofs.Common.{◌≡◌, ℕ, zero, suc, ◌+◌, ◌<◌, ◌≤◌, ◌==◌, ◌⊎◌, inl, inr, false, Some, None, List, [], ◌∷◌, length, get_or, refl, sym, ap, ◌∙◌, arith}
use Rattle.std.specs.Prelude.{Option, is_some, sum_by}
use Rattle.at_orders.proofs.Prelude.{cases_lt, Decides-eqb, sum_by-cons, sum_by-le-sum_by, position-Some, slot_in, account_of, is_owner, BookTerms, Call, Transfer, Read, Pay, TargetPair, at_else, OpeningCovers, asked_by_call, asked_by_pay, asked_in_file, sum_below}
use Rattle.at_orders.proofs.Moved.{at_or_off}
use Rattle.at_orders.proofs.Sums.{at_else-at, at_else-off, sum-one, sum-same}

-- it isn't one of these
abbrev IsOff : List ℕ → ℕ → Type 0
IsOff owners q = (k : ℕ) → k < length owners → get_or owners k 0 ≡ q → ⊥

zeros : (n : ℕ) → sum_below n (λ q. 0) ≡ 0
unfolding sum_below
zeros zero = refl
zeros (suc n) = let rest = zeros n in omega arith

-- the first terms are no more than those of these, where all others are 0
below-listed : (owners : List ℕ) (f : ℕ → ℕ) (n : ℕ) → ((q : ℕ) → IsOff owners q → f q ≡ 0) → sum_below n f ≤ sum_by f owners
below-listed [] f n off = let same = sum-same n f (λ q. 0) (λ q h. off q (λ k below. absurd (omega (arith, below)))) in let none = zeros n in omega arith
below-listed (o ∷ os) f n off =
    let g : ℕ → ℕ = at_else o 0 f in
    let rest = below-listed os g n (λ q away. at_or_off o q
    (λ same. at_else-at o 0 q f (sym same))
    (λ differ. at_else-off o 0 q f differ ∙ off q (λ k below is. elsewhere q differ away k below is))) in
    let less = sum_by-le-sum_by g f os (λ q. at_or_off o q
    (λ same. let none = at_else-at o 0 q f (sym same) in omega arith)
    (λ differ. let same = at_else-off o 0 q f differ in omega arith)) in
    let sum = sum_by-cons f o os in
    let split : sum_below n f ≤ sum_below n g + f o = one (cases_lt o n) in
    omega arith
  where
    elsewhere : (q : ℕ) → (o ≡ q → ⊥) → IsOff os q → IsOff (o ∷ os) q
    elsewhere q differ away zero below is = differ is
    elsewhere q differ away (suc k) below is = away k (omega arith) is

    one : (o < n) ⊎ (n ≤ o) → sum_below n f ≤ sum_below n (at_else o 0 f) + f o
    one (inl within) =
        let both = sum-one n o f (at_else o 0 f) within (λ q h differ. sym (at_else-off o 0 q f differ)) in
        let none = at_else-at o 0 o f refl in
        omega arith
    one (inr beyond) =
        let same = sum-same n f (at_else o 0 f) (λ q h. sym (at_else-off o 0 q f (λ is. omega arith))) in
        omega arith

asks-none : (b : BookTerms) (q a : ℕ) → is_owner b q a ≡ false → (calls : List Call) → asked_in_file b q a calls ≡ 0
asks-none b q a off [] = refl
asks-none b q a off (c ∷ cs) = let more = sum_by-cons (asked_by_call b q a) c cs in let rest = asks-none b q a off cs in let one = call-none c in omega arith
  where
    pay-none : (f : ℕ) (ts : List TargetPair) → asked_by_pay b q a f ts ≡ 0
    pay-none f ts = rw off refl

    call-none : (c : Call) → asked_by_call b q a c ≡ 0
    call-none (Transfer from to amount) = pay-none from ((to, amount) ∷ [])
    call-none (Read other) = refl
    call-none (Pay from ts) = pay-none from ts

-- where the owners ask no more than the account opens with, it opens with all that is asked of it
pub owners-cover : (b : BookTerms) (files : List (List Call)) (a : ℕ)
    → sum_by (λ owner. asked_in_file b owner a (get_or files owner [])) (account_of b a).owners ≤ (account_of b a).opening → OpeningCovers b files a
owners-cover b files a covers =
    let all = below-listed (account_of b a).owners (λ (q : ℕ). asked_in_file b q a (get_or files q [])) (length files) (λ q away. none q away (slot_in (account_of b a) q) refl) in
    omega arith
  where
    none : (q : ℕ) → IsOff (account_of b a).owners q → (slot : Option ℕ) → slot_in (account_of b a) q ≡ slot → asked_in_file b q a (get_or files q []) ≡ 0
    none q away (Some i) is =
        let there = position-Some (λ owner. owner == q) (account_of b a).owners i 0 is in
        absurd (away i there.0 ((Decides-eqb (get_or (account_of b a).owners i 0) q).0 there.1))
    none q away None is = asks-none b q a (ap is_some is) (get_or files q [])
