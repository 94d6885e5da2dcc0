-- Sums over the first processes.
use Rattle.std.proofs.Common.{◌≡◌, ℕ, zero, suc, ◌+◌, ◌<◌, ◌≤◌, ◌==◌, ⊎_elim, refl, sym, ap, add-one, eq-eqb, arith}
use Rattle.at_orders.proofs.Prelude.{cases_Bool, Decides-eqb, at_else, sum_below}
use Rattle.at_orders.proofs.Moved.{at_or_off}

pub sum-zero : (f : ℕ → ℕ) → sum_below 0 f ≡ 0
unfolding sum_below
sum-zero f = refl

pub sum-push : (n : ℕ) (f : ℕ → ℕ) → sum_below (n + 1) f ≡ sum_below n f + f n
unfolding sum_below
sum-push n f = rw (add-one n) refl

-- the same terms
pub sum-same : (n : ℕ) (f g : ℕ → ℕ) → ((q : ℕ) → q < n → f q ≡ g q) → sum_below n f ≡ sum_below n g
unfolding sum_below
sum-same zero f g same = refl
sum-same (suc n) f g same = let rest = sum-same n f g (λ q h. same q (omega arith)) in let last = same n (omega arith) in omega arith

-- terms that are no greater
pub sum-up : (n : ℕ) (f g : ℕ → ℕ) → ((q : ℕ) → q < n → f q ≤ g q) → sum_below n f ≤ sum_below n g
unfolding sum_below
sum-up zero f g up = omega arith
sum-up (suc n) f g up = let rest = sum-up n f g (λ q h. up q (omega arith)) in let last = up n (omega arith) in omega arith

-- terms that are added
pub sum-add : (n : ℕ) (f g h : ℕ → ℕ) → ((q : ℕ) → q < n → f q + g q ≡ h q) → sum_below n f + sum_below n g ≡ sum_below n h
unfolding sum_below
sum-add zero f g h add = refl
sum-add (suc n) f g h add = let rest = sum-add n f g h (λ q less. add q (omega arith)) in let last = add n (omega arith) in omega arith

-- one term is another
pub sum-one : (n p : ℕ) (f g : ℕ → ℕ) → p < n → ((q : ℕ) → q < n → (p ≡ q → ⊥) → f q ≡ g q) → sum_below n g + f p ≡ sum_below n f + g p
unfolding sum_below
sum-one zero p f g within same = absurd (omega arith)
sum-one (suc n) p f g within same = at_or_off p n
    (λ last.
    let rest = sum-same n f g (λ q h. same q (omega arith) (λ e. omega arith)) in
    let x : f p ≡ f n = ap f last in
    let y : g p ≡ g n = ap g last in
    omega arith)
    (λ other.
    let rest = sum-one n p f g (omega (arith, other)) (λ q h. same q (omega arith)) in
    let last = same n (omega arith) other in
    omega arith)

-- no term is greater than the sum
pub term-up : (n p : ℕ) (f : ℕ → ℕ) → p < n → f p ≤ sum_below n f
unfolding sum_below
term-up zero p f within = absurd (omega arith)
term-up (suc n) p f within = at_or_off p n
    (λ last. let x : f p ≡ f n = ap f last in omega arith)
    (λ other. let rest = term-up n p f (omega (arith, other)) in omega arith)

-- one term, and the others
pub at_else-at : (p x q : ℕ) (f : ℕ → ℕ) → q ≡ p → at_else p x f q ≡ x
at_else-at p x q f same = rw (eq-eqb q p same) refl

pub at_else-off : (p x q : ℕ) (f : ℕ → ℕ) → (p ≡ q → ⊥) → at_else p x f q ≡ f q
at_else-off p x q f off = ⊎_elim (λ is. absurd (off (sym ((Decides-eqb q p).0 is)))) (λ is. rw is refl) (cases_Bool (q == p))

-- the term of the process is left out
pub sum-else-at : (n p : ℕ) (f : ℕ → ℕ) (sum : ℕ) → n ≡ p → sum ≡ sum_below n (at_else p 0 f) → sum ≡ sum_below (n + 1) (at_else p 0 f)
sum-else-at n p f sum same is = let more = sum-push n (at_else p 0 f) in let none = at_else-at p 0 n f same in omega arith

pub sum-else-off : (n p : ℕ) (f : ℕ → ℕ) (sum v : ℕ) → (n ≡ p → ⊥) → v ≡ f n → sum ≡ sum_below n (at_else p 0 f) → sum + v ≡ sum_below (n + 1) (at_else p 0 f)
sum-else-off n p f sum v other value is = let more = sum-push n (at_else p 0 f) in let term = at_else-off p 0 n f (λ e. other (sym e)) in omega arith
