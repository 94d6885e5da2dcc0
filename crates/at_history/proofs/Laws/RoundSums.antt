-- Sums over a list that count each round once: they depend only on which records of each process the list has.
use Rattle.std.proofs.Common.{◌≡◌, ℕ, ◌+◌, ◌≤◌, ◌&&◌, ◌||◌, zero, suc, eqb, Bool, true, false, cond, List, [], ◌∷◌, ◌++◌, length, get_or, take, refl, sym, ap, subst, ◌∙◌, arith, inl, inr, fold}
use Rattle.at_history.proofs.Prelude.{cases_Bool, cases_eq, eq-eqb, eqb-true, ne_eqb, append-nil, take_all, take_more, length_push, All-get_or, All-take, count_by-le-length, All, list_any, sum_by, is_round, is_same_round, is_round_on, no_publication, firsts, repeats, rounds, with_first, Entry, Own, Round, Publication}
use Rattle.at_history.proofs.Laws.Rounds.{firsts-new, firsts-nil, firsts-repeat, sum_by-firsts_new, sum_by-firsts_repeat}
use Rattle.at_history.proofs.Laws.Shuffles.{All-before, All-middle, All-without, HasSameRecords, IsShuffle, IsShuffle-HasSameRecords, list_any-IsShuffle, list_any-middle}

-- being of one round goes both ways
is_same_round-sym : (d e : Entry) → is_same_round d e ≡ is_same_round e d
is_same_round-sym (Own from targets) (Own from' targets') = refl
is_same_round-sym (Own from targets) (Round a r d targets') = refl
is_same_round-sym (Round a r d targets) (Own from targets') = refl
is_same_round-sym (Round a r d targets) (Round a' r' d' targets') =
    ap (λ t. t && eqb r' r) (eqb_sym a' a) ∙ ap (λ t. eqb a a' && t) (eqb_sym r' r)
  where
    eqb_sym : (m n : ℕ) → eqb m n ≡ eqb n m
    eqb_sym m n =
        elim (cases_eq m n) as (λ _. eqb m n ≡ eqb n m) [
          | inl same ↦ eq-eqb m n same ∙ sym (eq-eqb n m (sym same))
          | inr apart ↦ ne_eqb m n apart ∙ sym (ne_eqb n m (λ e. apart (sym e)))
        ]

-- records of one round repeat the same lists
pub repeats-same : (x y : Publication) (list : List Publication) → is_same_round x.entry y.entry ≡ true → repeats x list ≡ repeats y list
repeats-same x y list same = by_entries x.entry y.entry same
  where
    and_true : (s t : Bool) → (s && t) ≡ true → (s ≡ true) × (t ≡ true)
    and_true true true both = (refl, refl)
    and_true true false both = absurd (cc both)
    and_true false t both = absurd (cc both)

    by_entries : (d e : Entry) → is_same_round d e ≡ true
        → list_any (λ z. is_same_round d z.entry) list ≡ list_any (λ z. is_same_round e z.entry) list
    by_entries (Own from targets) e both = absurd (cc both)
    by_entries (Round a r d targets) (Own from targets') both = absurd (cc both)
    by_entries (Round a r d targets) (Round a' r' d' targets') both =
        let parts = and_true (eqb a' a) (eqb r' r) both in
        ap (λ k. list_any (λ z. is_round k r z.entry) list) (sym (eqb-true a' a parts.0))
        ∙ ap (λ k. list_any (λ z. is_round a' k z.entry) list) (sym (eqb-true r' r parts.1))

-- the first records of the rounds are of the same rounds
repeats-firsts-take : (x : Publication) (m : ℕ) (xs : List Publication) → m ≤ length xs → repeats x (firsts (take m xs)) ≡ repeats x (take m xs)
repeats-firsts-take x zero xs within = ap (repeats x) firsts-nil
repeats-firsts-take x (suc m) xs within =
    let y = get_or xs m no_publication in
    let zs = take m xs in
    let g : Publication → Bool = λ z. is_same_round x.entry z.entry in
    let e : suc m ≡ m + 1 = omega arith in
    let more : take (suc m) xs ≡ zs ++ y ∷ [] = ap (λ k. take k xs) e ∙ take_more xs m no_publication (omega (arith, within)) in
    let rest = repeats-firsts-take x m xs (omega (arith, within)) in
    let last : list_any g (zs ++ y ∷ []) ≡ (g y || list_any g zs) =
    list_any-middle g zs y [] ∙ ap (λ t. g y || list_any g t) (append-nil zs) in
    ap (λ t. list_any g (firsts t)) more
    ∙ (elim (cases_Bool (repeats y (firsts zs))) as (λ _. list_any g (firsts (zs ++ y ∷ [])) ≡ list_any g (zs ++ y ∷ [])) [
      | inl again ↦
          ap (list_any g) (firsts-repeat zs y again)
          ∙ (rest ∙ (known (g y) (list_any g zs) (λ e. sym rest ∙ (repeats-same x y (firsts zs) e ∙ again)) ∙ sym last))
      | inr new ↦
          ap (list_any g) (firsts-new zs y new)
          ∙ (list_any-middle g (firsts zs) y [] ∙ (ap (λ t. g y || list_any g t) (append-nil (firsts zs)) ∙ (ap (λ t. g y || t) rest ∙ sym last)))
    ]
    ∙ ap (list_any g) (sym more))
  where
    known : (s t : Bool) → (s ≡ true → t ≡ true) → t ≡ (s || t)
    known true t so = so refl
    known false t so = refl

pub repeats-firsts : (x : Publication) (xs : List Publication) → repeats x (firsts xs) ≡ repeats x xs
repeats-firsts x xs =
    ap (λ t. repeats x (firsts t)) (sym (take_all (length xs) xs (omega arith)))
    ∙ (repeats-firsts-take x (length xs) xs (omega arith) ∙ ap (repeats x) (take_all (length xs) xs (omega arith)))

-- a sum that counts the last record of each round
abbrev pub lasts_sum : (Publication → ℕ) → List Publication → ℕ
lasts_sum f [] = 0
lasts_sum f (x ∷ xs) = cond (repeats x xs) 0 (f x) + lasts_sum f xs

-- one of two records of a round counts, whichever it is
one_counts : (same first second : Bool) (a b : ℕ) → (same ≡ true → (first ≡ second) × (a ≡ b))
    → cond (same || first) 0 a + cond second 0 b ≡ cond (same || second) 0 b + cond first 0 a
one_counts true true true a b agree = refl
one_counts true true false a b agree = absurd (cc ((agree refl).0))
one_counts true false true a b agree = absurd (cc ((agree refl).0))
one_counts true false false a b agree = omega (arith, (agree refl).1)
one_counts false first second a b agree = omega arith

-- where records of one round have one weight
module _ (P : Publication → Type 0) (f : Publication → ℕ)
    (agree : (x y : Publication) → P x → P y → is_same_round x.entry y.entry ≡ true → f x ≡ f y) where
  lasts_sum-middle : (cut : List Publication) (x : Publication) (back : List Publication) → All P cut → P x
      → lasts_sum f (cut ++ x ∷ back) ≡ cond (repeats x (cut ++ back)) 0 (f x) + lasts_sum f (cut ++ back)
  lasts_sum-middle [] x back all own = refl
  lasts_sum-middle (z ∷ cut) x back all own =
      let rest = cut ++ back in
      let same = is_same_round z.entry x.entry in
      let before : repeats z (cut ++ x ∷ back) ≡ (same || repeats z rest) = list_any-middle (λ y. is_same_round z.entry y.entry) cut x back in
      let after : repeats x (z ∷ rest) ≡ (same || repeats x rest) = ap (λ t. t || repeats x rest) (is_same_round-sym x.entry z.entry) in
      let here = one_counts same (repeats z rest) (repeats x rest) (f z) (f x)
      (λ e. (repeats-same z x rest e, agree z x (All-middle P [] z cut all) own e)) in
      omega (
        arith,
        lasts_sum-middle cut x back (All-without P [] z cut all) own,
        ap (λ t. cond t 0 (f z)) before,
        ap (λ t. cond t 0 (f x)) after,
        here,
      )

  lasts_sum-IsShuffle : (xs ys : List Publication) → IsShuffle xs ys → All P ys → lasts_sum f xs ≡ lasts_sum f ys
  lasts_sum-IsShuffle [] ys none all = ap (lasts_sum f) (sym none)
  lasts_sum-IsShuffle (x ∷ xs) ys (cut, back, split, rest) all =
      let parts : All P (cut ++ x ∷ back) = subst (All P) split all in
      let middle = lasts_sum-middle cut x back (All-before P cut (x ∷ back) parts) (All-middle P cut x back parts) in
      let same = ap (λ t. cond t 0 (f x)) (list_any-IsShuffle (λ y. is_same_round x.entry y.entry) xs (cut ++ back) rest) in
      omega (arith, same, middle, lasts_sum-IsShuffle xs (cut ++ back) rest (All-without P cut x back parts), ap (lasts_sum f) split)

  -- so does the sum that counts the first record of each round
  sum_by-firsts-take : (m : ℕ) (xs : List Publication) → m ≤ length xs → All P xs
      → sum_by f (firsts (take m xs)) ≡ lasts_sum f (take m xs)
  sum_by-firsts-take zero xs within all = ap (sum_by f) firsts-nil
  sum_by-firsts-take (suc m) xs within all =
      let x = get_or xs m no_publication in
      let zs = take m xs in
      let e : suc m ≡ m + 1 = omega arith in
      let more : take (suc m) xs ≡ zs ++ x ∷ [] = ap (λ k. take k xs) e ∙ take_more xs m no_publication (omega (arith, within)) in
      let rest = sum_by-firsts-take m xs (omega (arith, within)) all in
      let last : lasts_sum f (zs ++ x ∷ []) ≡ cond (repeats x zs) 0 (f x) + lasts_sum f zs =
      lasts_sum-middle zs x [] (All-take P m xs all) (All-get_or P xs m no_publication (omega (arith, within)) all)
      ∙ ap (λ t. cond (repeats x t) 0 (f x) + lasts_sum f t) (append-nil zs) in
      ap (λ t. sum_by f (firsts t)) more
      ∙ (elim (cases_Bool (repeats x (firsts zs))) as (λ _. sum_by f (firsts (zs ++ x ∷ [])) ≡ lasts_sum f (zs ++ x ∷ [])) [
        | inl again ↦
            omega (arith, last, sum_by-firsts_repeat f zs x again, rest, ap (λ t. cond t 0 (f x)) (sym (repeats-firsts x zs) ∙ again))
        | inr new ↦ omega (arith, last, sum_by-firsts_new f zs x new, rest, ap (λ t. cond t 0 (f x)) (sym (repeats-firsts x zs) ∙ new))
      ]
      ∙ ap (lasts_sum f) (sym more))

  -- a sum that counts each round once depends only on which records of each process there are
  pub sum_by-firsts-same : (xs ys : List Publication) → HasSameRecords xs ys → All P xs → All P ys
      → sum_by f (firsts xs) ≡ sum_by f (firsts ys)
  sum_by-firsts-same xs ys same all all_too =
      ap (λ t. sum_by f (firsts t)) (sym (take_all (length xs) xs (omega arith)))
      ∙ (sum_by-firsts-take (length xs) xs (omega arith) all
      ∙ (ap (lasts_sum f) (take_all (length xs) xs (omega arith))
      ∙ (lasts_sum-IsShuffle xs ys (IsShuffle-HasSameRecords xs ys same) all_too
      ∙ (ap (lasts_sum f) (sym (take_all (length ys) ys (omega arith)))
      ∙ (sym (sum_by-firsts-take (length ys) ys (omega arith) all_too)
      ∙ ap (λ t. sum_by f (firsts t)) (take_all (length ys) ys (omega arith)))))))

-- no more rounds than publications
length-with_first : (acc : List Publication) (x : Publication) → length (with_first acc x) ≤ length acc + 1
length-with_first acc x =
    elim (cases_Bool (repeats x acc)) as (λ _. length (with_first acc x) ≤ length acc + 1) [
      | inl again ↦ subst (λ t. length (cond t acc (acc ++ x ∷ [])) ≤ length acc + 1) (sym again) (omega arith)
      | inr new ↦ subst (λ t. length (cond t acc (acc ++ x ∷ [])) ≤ length acc + 1) (sym new) (omega (arith, length_push acc x))
    ]

length-fold : (xs acc : List Publication) → length (fold with_first acc xs) ≤ length acc + length xs
length-fold [] acc = omega arith
length-fold (x ∷ xs) acc = omega (arith, length-fold xs (with_first acc x), length-with_first acc x)

pub rounds-le-length : (a : ℕ) (xs : List Publication) → rounds a xs ≤ length xs
unfolding firsts
rounds-le-length a xs = omega (arith, count_by-le-length (λ (x : Publication). is_round_on a x.entry) (firsts xs), length-fold xs [])
