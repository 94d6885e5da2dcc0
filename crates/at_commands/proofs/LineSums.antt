-- Sums over the lines of a run are sums over the files that the run is whole for.
use Rattle.std.proofs.Common.{◌≡◌, ◌∙◌, ℕ, ◌+◌, ◌<◌, ◌≤◌, zero, suc, true, false, cond, ◌==◌, List, [], ◌∷◌, map, length, get_or, All, sum_by, refl, sym, ap, arith, zero-add, inl, inr}
use Rattle.at_commands.proofs.Prelude.{range_with_len, cases_order, eq-eqb, ne_eqb, All-head, All-tail, fill_by_all, get_or-range_with_len, length-range_with_len, sum_by-cons, Whole, lines_of, Call, Line, over_files}

-- two terms that are the same at each element
sum_by-same : {X : Type 0} (f g : X → ℕ) (xs : List X) → All (λ x. f x ≡ g x) xs → sum_by f xs ≡ sum_by g xs
sum_by-same f g [] same = refl
sum_by-same f g (x ∷ xs) same =
    omega (arith, sum_by-cons f x xs, sum_by-cons g x xs, All-head (λ y. f y ≡ g y) x xs same, sum_by-same f g xs (All-tail (λ y. f y ≡ g y) x xs same))

sum_by-add : {X : Type 0} (f g : X → ℕ) (xs : List X) → sum_by (λ x. f x + g x) xs ≡ sum_by f xs + sum_by g xs
sum_by-add f g [] = omega arith
sum_by-add f g (x ∷ xs) = omega (arith, sum_by-cons (λ y. f y + g y) x xs, sum_by-cons f x xs, sum_by-cons g x xs, sum_by-add f g xs)

sum_by-none : {X : Type 0} (xs : List X) → sum_by (λ x. 0) xs ≡ 0
sum_by-none [] = refl
sum_by-none (x ∷ xs) = omega (arith, sum_by-cons (λ y. 0) x xs, sum_by-none xs)

sum_by-map : {X Y : Type 0} (f : Y → ℕ) (g : X → Y) (xs : List X) → sum_by f (map g xs) ≡ sum_by (λ x. f (g x)) xs
sum_by-map f g [] = refl
sum_by-map f g (x ∷ xs) = omega (arith, sum_by-cons f (g x) (map g xs), sum_by-cons (λ y. f (g y)) x xs, sum_by-map f g xs)

-- a term of one number alone
only : ℕ → ℕ → ℕ → ℕ
only term p q = cond (p == q) term 0

only_same : (term p q : ℕ) → p ≡ q → only term p q ≡ term
unfolding only
only_same term p q same = rw (eq-eqb p q same) refl

only_other : (term p q : ℕ) → (p ≡ q → ⊥) → only term p q ≡ 0
unfolding only
only_other term p q other = rw (ne_eqb p q other) refl

sum_by-only_below : (term p a n : ℕ) → p < a → sum_by (only term p) (range_with_len a n) ≡ 0
sum_by-only_below term p a zero below = refl
sum_by-only_below term p a (suc n) below =
    omega (arith, sum_by-cons (only term p) a (range_with_len (a + 1) n), only_other term p a (λ e. omega arith), sum_by-only_below term p (a + 1) n (omega arith))

sum_by-only : (term p a n : ℕ) → a ≤ p → p < a + n → sum_by (only term p) (range_with_len a n) ≡ term
sum_by-only term p a zero above below = absurd (omega arith)
sum_by-only term p a (suc n) above below =
    let cons = sum_by-cons (only term p) a (range_with_len (a + 1) n) in
    elim (cases_order p a) [
      | inl same ↦ omega (arith, cons, only_same term p a same, sum_by-only_below term p (a + 1) n (omega arith))
      | inr (inl less) ↦ absurd (omega arith)
      | inr (inr more) ↦ omega (arith, cons, only_other term p a (λ e. omega arith), sum_by-only term p (a + 1) n (omega arith) (omega arith))
    ]

-- one more line is one of its own process alone
sum_by-lines_of-cons : (f : Line → ℕ) (l : Line) (ls : List Line) (p : ℕ)
    → sum_by f (lines_of p (l ∷ ls)) ≡ only (f l) l.process p + sum_by f (lines_of p ls)
unfolding only
sum_by-lines_of-cons f l ls p =
    elim (l.process == p) as (λ b. sum_by f (cond b (l ∷ lines_of p ls) (lines_of p ls)) ≡ cond b (f l) 0 + sum_by f (lines_of p ls)) [
      | true ↦ sum_by-cons f l (lines_of p ls)
      | false ↦ sym (zero-add (sum_by f (lines_of p ls)))
    ]

-- what holds of each number below n
All-range : (P : ℕ → Type 0) (n : ℕ) → ((p : ℕ) → p < n → P p) → All P (range_with_len 0 n)
All-range P n each k d within =
    let below : k < n = omega (arith, length-range_with_len 0 n) in
    let at : get_or (range_with_len 0 n) k d ≡ k = get_or-range_with_len 0 n k d below ∙ zero-add k in
    rw at (each k below)

-- a sum over lines goes over the lines of each process
sum_by-lines_of : (f : Line → ℕ) (lines : List Line) (n : ℕ) → All (λ l. l.process < n) lines
    → sum_by f lines ≡ sum_by (λ p. sum_by f (lines_of p lines)) (range_with_len 0 n)
sum_by-lines_of f [] n within = sym (sum_by-none (range_with_len 0 n))
sum_by-lines_of f (l ∷ ls) n within =
    let below : l.process < n = All-head (λ m. m.process < n) l ls within in
    let rest = sum_by-lines_of f ls n (All-tail (λ m. m.process < n) l ls within) in
    let each = sum_by-same (λ p. sum_by f (lines_of p (l ∷ ls))) (λ p. only (f l) l.process p + sum_by f (lines_of p ls)) (range_with_len 0 n)
    (All-range _ n (λ p _. sum_by-lines_of-cons f l ls p)) in
    let parts = sum_by-add (only (f l) l.process) (λ p. sum_by f (lines_of p ls)) (range_with_len 0 n) in
    let one = sum_by-only (f l) l.process 0 n (omega arith) (omega arith) in
    sum_by-cons f l ls ∙ omega (arith, rest, each, parts, one)

-- a sum over files goes over their positions
sum_by-positions : (g : List Call → ℕ) (files : List (List Call)) → sum_by g files ≡ sum_by (λ p. g (get_or files p [])) (range_with_len 0 (length files))
sum_by-positions g files =
    let at = fill_by_all (λ p. get_or files p []) files (length files) [] refl (λ k below. refl) in
    ap (sum_by g) at ∙ sum_by-map g (λ p. get_or files p []) (range_with_len 0 (length files))

-- a sum over the calls of all lines is one over the calls of all files
pub sum_by-Whole : (term : Call → ℕ) (files : List (List Call)) (lines : List Line) → Whole files lines
    → sum_by (λ l. term l.call) lines ≡ over_files term files
sum_by-Whole term files lines whole =
    let n = length files in
    let by_process = sum_by-lines_of (λ l. term l.call) lines n whole.within in
    let each = sum_by-same (λ p. sum_by (λ (l : Line). term l.call) (lines_of p lines)) (λ p. sum_by term (get_or files p [])) (range_with_len 0 n)
    (All-range _ n (λ p below. sym (sum_by-map term (λ (l : Line). l.call) (lines_of p lines)) ∙ ap (sum_by term) (whole.calls p below))) in
    by_process ∙ each ∙ sym (sum_by-positions (sum_by term) files)
