-- Receipts that account for all that a process has: in a longer list, and with one more receipt.
use Rattle.std.proofs.Common.{◌≡◌, ℕ, ◌*◌, ◌<◌, ◌≤◌, ◌⊎◌, zero, suc, List, [], ◌∷◌, ◌++◌, length, get_or, take, refl, sym, ap, subst, ◌∙◌, arith, inl, inr}
use Rattle.at_log.proofs.Prelude.{take-append_seam, cases_lt, get_or_append_left, get_or_at, get_or_default, length-append, take-append-le, All, sum_by, IsNonDecreasing, BookTerms, HasSlot, firsts-nil, one_if, names, IsHistory, IsPrefix, named, owns_of, Publication, IsPlaced, asks_in, is_success, owns_in, receipt_at, Told, key_at, key_of, keys_from, keys_of, Previous, Receipt}
use Rattle.at_log.proofs.Laws.Keys.{length-keys_from}
use Rattle.at_log.proofs.LeftLaws.Keys.{IsPlaced-IsPrefix, keys_of-IsPrefix, keys_of-le}

-- a process that has nothing in no list
pub Told-nil : (b : BookTerms) (p : ℕ) → Told b p [] []
unfolding keys_from
Told-nil b p = record {
  placed = λ i within. absurd (omega arith);
  keys = λ i j d before within. absurd (omega arith);
  owns = refl;
  asks = λ account slot has. ap (sum_by (λ (y : Publication). one_if (names account slot y.entry))) firsts-nil;
}

-- receipts account for a process in a longer list, where it has no more own records and no more rounds for it
pub Told-IsPrefix : (b : BookTerms) (p : ℕ) (list more : List Publication) (receipts : List Receipt) → IsHistory b list → IsPrefix list more
    → owns_of p more ≡ owns_of p list → ((a slot : ℕ) → HasSlot b p a slot → named a slot more ≡ named a slot list)
    → Told b p list receipts → Told b p more receipts
Told-IsPrefix b p list more receipts history before owns named_same told = record {
  placed = λ i within. IsPlaced-IsPrefix b p list more history before (take i receipts) (receipt_at receipts i) (told.placed i within);
  keys = subst IsNonDecreasing (sym (keys_of-IsPrefix b p list more receipts history before told.placed)) told.keys;
  owns = owns ∙ told.owns;
  asks = λ account slot has. named_same account slot has ∙ told.asks account slot has;
}

-- keys that don't fall, with one more

IsNonDecreasing-push : (ks : List ℕ) (k : ℕ) → IsNonDecreasing ks → All (λ n. n ≤ k) ks → IsNonDecreasing (ks ++ k ∷ [])
IsNonDecreasing-push ks k sorted below = λ i j d before within.
    let last : length ks ≤ j → get_or (ks ++ k ∷ []) j d ≡ k = λ past.
    get_or_at ks k [] d j (omega (arith, past, within, length-append ks (k ∷ []))) in
    elim (cases_lt j (length ks)) as (λ _. get_or (ks ++ k ∷ []) i d ≤ get_or (ks ++ k ∷ []) j d) [
      | inl inside ↦
          omega (
            arith,
            get_or_append_left ks (k ∷ []) d i (omega arith),
            get_or_append_left ks (k ∷ []) d j inside,
            sorted i j d before inside,
          )
      | inr past ↦ elim (cases_lt i (length ks)) as (λ _. get_or (ks ++ k ∷ []) i d ≤ get_or (ks ++ k ∷ []) j d) [
        | inl inside ↦ omega (arith, get_or_append_left ks (k ∷ []) d i inside, below i d inside, last past)
        | inr beyond ↦ let same : i ≡ j = omega (arith, past, beyond, before, within, length-append ks (k ∷ [])) in
            omega (arith, ap (λ n. get_or (ks ++ k ∷ []) n d) same)
      ]
    ]

-- the last of keys that don't fall is the largest
last-largest : (ks : List ℕ) (n : ℕ) → length ks ≡ n → IsNonDecreasing ks → All (λ k. k ≤ get_or (0 ∷ ks) n 0) ks
last-largest ks zero none sorted = λ i d within. absurd (omega arith)
last-largest ks (suc n) some sorted = λ i d within.
    omega (arith, get_or_default ks i d 0 within, sorted i n 0 (omega arith) (omega arith))

keys_from-push : (p : ℕ) (list : List Publication) (previous : ℕ) (receipts : List Receipt) (r : Receipt)
    → keys_from p list previous (receipts ++ r ∷ [])
    ≡ keys_from p list previous receipts ++ key_of p list (get_or (previous ∷ keys_from p list previous receipts) (length receipts) 0) r ∷ []
unfolding keys_from
keys_from-push p list previous [] r = refl
keys_from-push p list previous (x ∷ xs) r = ap (λ ks. key_of p list previous x ∷ ks) (keys_from-push p list (key_of p list previous x) xs r)

-- a receipt that stands with the one before it, or not below any of them, keeps the keys from falling
keys_of-push : (p : ℕ) (list : List Publication) (receipts : List Receipt) (r : Receipt) (bound : ℕ) → IsNonDecreasing (keys_of p list receipts)
    → All (λ k. k ≤ bound) (keys_of p list receipts) → (r.at ≡ Previous) ⊎ ((previous : ℕ) → bound ≤ key_of p list previous r)
    → IsNonDecreasing (keys_of p list (receipts ++ r ∷ []))
keys_of-push p list receipts r bound sorted below where_it_is =
    let ks = keys_of p list receipts in
    let last : ℕ = get_or (0 ∷ ks) (length receipts) 0 in
    let key : ℕ = key_of p list last r in
    let up_to_it : All (λ k. k ≤ key) ks =
    elim where_it_is as (λ _. All (λ k. k ≤ key) ks) [
      | inl previous ↦ λ i d within.
          omega (
            arith,
            last-largest ks (length receipts) (length-keys_from p list 0 receipts) sorted i d within,
            ap (key_at p list last r.call (is_success r.reply)) previous,
          )
      | inr above ↦ λ i d within. omega (arith, below i d within, above last)
    ] in
    subst IsNonDecreasing (sym (keys_from-push p list 0 receipts r)) (IsNonDecreasing-push ks key sorted up_to_it)

-- one more receipt is placed after the earlier ones
placed-push : (b : BookTerms) (p : ℕ) (list : List Publication) (receipts : List Receipt) (r : Receipt)
    → ((i : ℕ) → i < length receipts → IsPlaced b p list (take i receipts) (receipt_at receipts i)) → IsPlaced b p list receipts r
    → (i : ℕ) → i < length (receipts ++ r ∷ []) → IsPlaced b p list (take i (receipts ++ r ∷ [])) (receipt_at (receipts ++ r ∷ []) i)
placed-push b p list receipts r placed new i within =
    let all = receipts ++ r ∷ [] in
    elim (cases_lt i (length receipts)) as (λ _. IsPlaced b p list (take i all) (receipt_at all i)) [
      | inl inside ↦
          subst (λ earlier. IsPlaced b p list earlier (receipt_at all i)) (sym (take-append-le i receipts (r ∷ []) (omega (arith, inside))))
          (subst (IsPlaced b p list (take i receipts)) (sym (get_or_append_left receipts (r ∷ []) _ i inside)) (placed i inside))
      | inr past ↦
          let last : i ≡ length receipts = omega (arith, past, within, length-append receipts (r ∷ [])) in
          let earlier_is : take i all ≡ receipts = ap (λ n. take n all) last ∙ take-append_seam receipts (r ∷ []) in
          subst (λ earlier. IsPlaced b p list earlier (receipt_at all i)) (sym earlier_is)
          (subst (IsPlaced b p list receipts) (sym (get_or_at receipts r [] _ i (sym last))) new)
    ]

-- with one more receipt in the same list: it is placed, its key isn't below the earlier ones, and the counts are right with it
pub Told-push : (b : BookTerms) (p : ℕ) (list : List Publication) (receipts : List Receipt) (r : Receipt) (bound : ℕ)
    → ((i : ℕ) → i < length receipts → IsPlaced b p list (take i receipts) (receipt_at receipts i))
    → IsNonDecreasing (keys_of p list receipts) → All (λ k. k ≤ bound) (keys_of p list receipts)
    → IsPlaced b p list receipts r → (r.at ≡ Previous) ⊎ ((previous : ℕ) → bound ≤ key_of p list previous r)
    → owns_of p list ≡ owns_in (receipts ++ r ∷ [])
    → ((a slot : ℕ) → HasSlot b p a slot → named a slot list ≡ asks_in a (receipts ++ r ∷ []))
    → Told b p list (receipts ++ r ∷ [])
Told-push b p list receipts r bound placed sorted below new where_it_is owns asks = record {
  placed = placed-push b p list receipts r placed new;
  keys = keys_of-push p list receipts r bound sorted below where_it_is;
  owns = owns;
  asks = asks;
}

-- with the receipt of a call, in the list that stands after it: it is placed there, after all that stood before
pub Told-call : (b : BookTerms) (p : ℕ) (list more : List Publication) (receipts : List Receipt) (r : Receipt) → IsHistory b list → IsPrefix list more
    → Told b p list receipts → IsPlaced b p more receipts r
    → (r.at ≡ Previous) ⊎ ((previous : ℕ) → 2 * length list ≤ key_of p more previous r)
    → owns_of p more ≡ owns_in (receipts ++ r ∷ [])
    → ((a slot : ℕ) → HasSlot b p a slot → named a slot more ≡ asks_in a (receipts ++ r ∷ []))
    → Told b p more (receipts ++ r ∷ [])
Told-call b p list more receipts r history before told new where_it_is owns asks =
    let same = keys_of-IsPrefix b p list more receipts history before told.placed in
    Told-push b p more receipts r (2 * length list)
    (λ i within. IsPlaced-IsPrefix b p list more history before (take i receipts) (receipt_at receipts i) (told.placed i within))
    (subst IsNonDecreasing (sym same) told.keys)
    (subst (All (λ k. k ≤ 2 * length list)) (sym same) (keys_of-le b p list receipts history told.placed))
    new where_it_is owns asks
