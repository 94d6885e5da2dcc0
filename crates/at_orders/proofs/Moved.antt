-- What each account has before and after amounts are moved.
use Rattle.std.proofs.Common.{◌≡◌, ℕ, suc, ◌+◌, ◌-◌, ◌<◌, ◌≤◌, ◌==◌, ◌⊎◌, ⊎_elim, inl, inr, List, [], ◌∷◌, length, get_or, set, sum, refl, sym, ap, ◌∙◌, arith}
use Rattle.at_orders.proofs.Prelude.{cases_Bool, Decides-eqb, get_or-set_at, get_or-set_other, length-set, sum_by-cons, sum_by-set, AreTargetsOn, TargetPair, amount_of, credited, sum-set_more, IsTarget}

-- two numbers are the same or aren't
pub at_or_off : {A : Type 0} (i a : ℕ) → (i ≡ a → A) → ((i ≡ a → ⊥) → A) → A
at_or_off i a on off = ⊎_elim (λ is. on ((Decides-eqb i a).0 is)) (λ is. off (λ same. let wrong = (Decides-eqb i a).1 same in cc)) (cases_Bool (i == a))

pub set-at : (xs : List ℕ) (i v a : ℕ) → i < length xs → i ≡ a → get_or (set xs i v) a 0 ≡ v
set-at xs i v a within same = get_or-set_at xs i a v 0 (sym same) within

pub set-off : (xs : List ℕ) (i v a : ℕ) → (i ≡ a → ⊥) → get_or (set xs i v) a 0 ≡ get_or xs a 0
set-off xs i v a off = get_or-set_other xs i a v 0 (λ same. off (sym same))

abbrev more_at : List ℕ → ℕ → ℕ → List ℕ
more_at xs i t = set xs i (get_or xs i 0 + t)

tail-in : (n : ℕ) (t : TargetPair) (ts : List TargetPair) → AreTargetsOn n (t ∷ ts) → AreTargetsOn n ts
tail-in n t ts are = λ k d below. are (suc k) d (omega arith)

pub length-credited : (xs : List ℕ) (ts : List TargetPair) → length (credited xs ts) ≡ length xs
unfolding credited
length-credited xs [] = refl
length-credited xs (t ∷ ts) = length-credited (more_at xs t.0 t.1) ts ∙ length-set xs t.0 (get_or xs t.0 0 + t.1)

more-cross : (xs ys : List ℕ) (i t a : ℕ) → length xs ≡ length ys → i < length xs → get_or (more_at xs i t) a 0 + get_or ys a 0 ≡ get_or xs a 0 + get_or (more_at ys i t) a 0
more-cross xs ys i t a size within = at_or_off i a
    (λ same.
    let x = set-at xs i (get_or xs i 0 + t) a within same in
    let y = set-at ys i (get_or ys i 0 + t) a (omega arith) same in
    let p : get_or xs i 0 ≡ get_or xs a 0 = ap (λ (n : ℕ). get_or xs n 0) same in
    let q : get_or ys i 0 ≡ get_or ys a 0 = ap (λ (n : ℕ). get_or ys n 0) same in
    omega arith)
    (λ off.
    let x = set-off xs i (get_or xs i 0 + t) a off in
    let y = set-off ys i (get_or ys i 0 + t) a off in
    omega arith)

more-up : (xs : List ℕ) (i t a : ℕ) → i < length xs → get_or xs a 0 ≤ get_or (more_at xs i t) a 0
more-up xs i t a within = at_or_off i a
    (λ same.
    let x = set-at xs i (get_or xs i 0 + t) a within same in
    let p : get_or xs i 0 ≡ get_or xs a 0 = ap (λ (n : ℕ). get_or xs n 0) same in
    omega arith)
    (λ off. let x = set-off xs i (get_or xs i 0 + t) a off in omega arith)

-- two lists get the same
pub credited-cross : (xs ys : List ℕ) (ts : List TargetPair) (a : ℕ) → length xs ≡ length ys → AreTargetsOn (length xs) ts
    → get_or (credited xs ts) a 0 + get_or ys a 0 ≡ get_or xs a 0 + get_or (credited ys ts) a 0
unfolding credited
credited-cross xs ys [] a size are = omega arith
credited-cross xs ys (t ∷ ts) a size are =
    let within : t.0 < length xs = are 0 t (omega arith) in
    let long : length (more_at xs t.0 t.1) ≡ length xs = length-set xs t.0 (get_or xs t.0 0 + t.1) in
    let long_y : length (more_at ys t.0 t.1) ≡ length ys = length-set ys t.0 (get_or ys t.0 0 + t.1) in
    let one = more-cross xs ys t.0 t.1 a size within in
    let rest = credited-cross (more_at xs t.0 t.1) (more_at ys t.0 t.1) ts a (long ∙ (size ∙ sym long_y)) (rw long (tail-in (length xs) t ts are)) in
    omega arith

-- no account loses
pub credited-up : (xs : List ℕ) (ts : List TargetPair) (a : ℕ) → AreTargetsOn (length xs) ts → get_or xs a 0 ≤ get_or (credited xs ts) a 0
unfolding credited
credited-up xs [] a are = omega arith
credited-up xs (t ∷ ts) a are =
    let within : t.0 < length xs = are 0 t (omega arith) in
    let long : length (more_at xs t.0 t.1) ≡ length xs = length-set xs t.0 (get_or xs t.0 0 + t.1) in
    let one = more-up xs t.0 t.1 a within in
    let rest = credited-up (more_at xs t.0 t.1) ts a (rw long (tail-in (length xs) t ts are)) in
    omega arith

-- an account that gets nothing stays as it is
pub credited-touch : (xs : List ℕ) (ts : List TargetPair) (a : ℕ) → (get_or (credited xs ts) a 0 ≡ get_or xs a 0) ⊎ IsTarget ts a
unfolding credited
credited-touch xs [] a = inl refl
credited-touch xs (t ∷ ts) a = at_or_off t.0 a
    (λ same. inr (record { at = 0; within = omega arith; is = same }))
    (λ off. ⊎_elim
    (λ still. inl (still ∙ set-off xs t.0 (get_or xs t.0 0 + t.1) a off))
    (λ later. inr (record { at = suc later.at; within = let h = later.within in omega arith; is = later.is }))
    (credited-touch (more_at xs t.0 t.1) ts a))

pub sum-credited : (xs : List ℕ) (ts : List TargetPair) → AreTargetsOn (length xs) ts → sum (credited xs ts) ≡ sum xs + amount_of ts
unfolding credited
sum-credited xs [] are = omega arith
sum-credited xs (t ∷ ts) are =
    let within : t.0 < length xs = are 0 t (omega arith) in
    let long : length (more_at xs t.0 t.1) ≡ length xs = length-set xs t.0 (get_or xs t.0 0 + t.1) in
    let one = sum-set_more xs t.0 t.1 within in
    let all = sum_by-cons (λ (p : TargetPair). p.1) t ts in
    let rest = sum-credited (more_at xs t.0 t.1) ts (rw long (tail-in (length xs) t ts are)) in
    omega arith

-- the sum is taken from one account, and then each target is credited
abbrev pub moved_in : List ℕ → ℕ → List TargetPair → List ℕ
moved_in xs f ts = credited (set xs f (get_or xs f 0 - amount_of ts)) ts

pub length-moved : (xs : List ℕ) (f : ℕ) (ts : List TargetPair) → length (moved_in xs f ts) ≡ length xs
length-moved xs f ts = length-credited (set xs f (get_or xs f 0 - amount_of ts)) ts ∙ length-set xs f (get_or xs f 0 - amount_of ts)

taken-in : (xs : List ℕ) (f v : ℕ) (ts : List TargetPair) → AreTargetsOn (length xs) ts → AreTargetsOn (length (set xs f v)) ts
taken-in xs f v ts are = rw (length-set xs f v) are

pub moved-cross : (xs ys : List ℕ) (f : ℕ) (ts : List TargetPair) (a : ℕ) → length xs ≡ length ys → f < length xs → AreTargetsOn (length xs) ts
    → amount_of ts ≤ get_or xs f 0 → amount_of ts ≤ get_or ys f 0
    → get_or (moved_in xs f ts) a 0 + get_or ys a 0 ≡ get_or xs a 0 + get_or (moved_in ys f ts) a 0
moved-cross xs ys f ts a size within are enough enough_y =
    let v : ℕ = get_or xs f 0 - amount_of ts in
    let w : ℕ = get_or ys f 0 - amount_of ts in
    let long : length (set xs f v) ≡ length (set ys f w) = length-set xs f v ∙ (size ∙ sym (length-set ys f w)) in
    let rest = credited-cross (set xs f v) (set ys f w) ts a long (taken-in xs f v ts are) in
    at_or_off f a
    (λ same.
    let x = set-at xs f v a within same in
    let y = set-at ys f w a (omega arith) same in
    let p : get_or xs f 0 ≡ get_or xs a 0 = ap (λ (n : ℕ). get_or xs n 0) same in
    let q : get_or ys f 0 ≡ get_or ys a 0 = ap (λ (n : ℕ). get_or ys n 0) same in
    omega arith)
    (λ off.
    let x = set-off xs f v a off in
    let y = set-off ys f w a off in
    omega arith)

-- another account than the source loses nothing, and the source at most the sum
pub moved-off : (xs : List ℕ) (f : ℕ) (ts : List TargetPair) (a : ℕ) → AreTargetsOn (length xs) ts → (f ≡ a → ⊥) → get_or xs a 0 ≤ get_or (moved_in xs f ts) a 0
moved-off xs f ts a are off =
    let v : ℕ = get_or xs f 0 - amount_of ts in
    let x = set-off xs f v a off in
    let up = credited-up (set xs f v) ts a (taken-in xs f v ts are) in
    omega arith

pub moved-at : (xs : List ℕ) (f : ℕ) (ts : List TargetPair) (a : ℕ) → f < length xs → AreTargetsOn (length xs) ts → f ≡ a → get_or xs a 0 ≤ get_or (moved_in xs f ts) a 0 + amount_of ts
moved-at xs f ts a within are same =
    let v : ℕ = get_or xs f 0 - amount_of ts in
    let x = set-at xs f v a within same in
    let p : get_or xs f 0 ≡ get_or xs a 0 = ap (λ (n : ℕ). get_or xs n 0) same in
    let up = credited-up (set xs f v) ts a (taken-in xs f v ts are) in
    omega arith

-- the source and the targets alone change
pub moved-touch : (xs : List ℕ) (f : ℕ) (ts : List TargetPair) (a : ℕ) → (get_or (moved_in xs f ts) a 0 ≡ get_or xs a 0) ⊎ ((f ≡ a) ⊎ IsTarget ts a)
moved-touch xs f ts a = at_or_off f a (λ same. inr (inl same))
    (λ off. ⊎_elim (λ still. inl (still ∙ set-off xs f (get_or xs f 0 - amount_of ts) a off)) (λ target. inr (inr target))
    (credited-touch (set xs f (get_or xs f 0 - amount_of ts)) ts a))

pub sum-moved : (xs : List ℕ) (f : ℕ) (ts : List TargetPair) → f < length xs → AreTargetsOn (length xs) ts → amount_of ts ≤ get_or xs f 0 → sum (moved_in xs f ts) ≡ sum xs
sum-moved xs f ts within are enough =
    let v : ℕ = get_or xs f 0 - amount_of ts in
    let taken = sum_by-set (λ (n : ℕ). n) xs f v 0 within in
    let given = sum-credited (set xs f v) ts (taken-in xs f v ts are) in
    omega arith
