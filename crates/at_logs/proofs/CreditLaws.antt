-- Sums of kept credits.
use Rattle.std.proofs.Common.{◌≡◌, ◌≢◌, ℕ, ◌+◌, ◌≤◌, Bool, true, false, not, cond, eqb, List, [], ◌∷◌, ◌++◌, filter, sum_by, Option, Some, refl, ap, sym, ◌∙◌, inl, inr, arith}
use Rattle.at_logs.proofs.Prelude.{All, All-head, All-tail, AllByRecursion, eq-eqb, eqb_tells, nat_tests, sum_by-cons, LogTerms, TargetPair, account_on_logs, amount_to, Credit, credit_below, credit_to, credits_of, is_below, is_log}

-- an element that passes a test
sum-cond : (f : Credit → ℕ) (test : Bool) (x : Credit) (rest : List Credit) → sum_by f (cond test (x ∷ rest) rest) ≡ cond test (f x) 0 + sum_by f rest
sum-cond f true x rest = sum_by-cons f x rest
sum-cond f false x rest = omega arith

pub is_log-same : (o : Option ℕ) (p : ℕ) → o ≡ Some p → is_log p o ≡ true
is_log-same o p is = ap (is_log p) is ∙ eq-eqb p p refl

-- what a target brings to an account that the log debits
one-credit_to : (test : Bool) (to account amount : ℕ) → (to ≡ account → test ≡ true) → cond test (cond (eqb to account) amount 0) 0 ≡ cond (eqb to account) amount 0
one-credit_to true to account amount passes = refl
one-credit_to false to account amount passes = elim (eqb_tells to account) as (λ _. 0 ≡ cond (eqb to account) amount 0) [
  | inl t ↦ absurd (differ (passes t.1))
  | inr t ↦ ap (λ b. cond b amount 0) (sym t.0)
] where
  differ : false ≡ true → ⊥
  differ e = cc

-- the credits of a message bring what it brings
pub sum-credits_of : (b : LogTerms) (p account log number : ℕ) (targets : List TargetPair) → (account_on_logs b account).log ≡ Some p
    → sum_by (credit_to account) (credits_of b p log number targets) ≡ amount_to account targets
sum-credits_of b p account log number [] owner = refl
sum-credits_of b p account log number (t ∷ targets) owner =
    omega (
      arith,
      sum-cond (credit_to account) (is_log p (account_on_logs b t.0).log) (record { account = t.0; log = log; number = number; amount = t.1 }) (credits_of b p log number targets),
      one-credit_to (is_log p (account_on_logs b t.0).log) t.0 account t.1 (λ same. is_log-same (account_on_logs b t.0).log p (ap (λ a. (account_on_logs b a).log) same ∙ owner)),
      sum-credits_of b p account log number targets owner,
      sum_by-cons (λ (t : TargetPair). cond (eqb t.0 account) t.1 0) t targets,
    )

-- what holds of each
pub each-credits_of : (P : Credit → Type 0) (b : LogTerms) (p log number : ℕ) (targets : List TargetPair)
    → AllByRecursion (λ (t : TargetPair). is_log p (account_on_logs b t.0).log ≡ true → P (record { account = t.0; log = log; number = number; amount = t.1 })) targets
    → AllByRecursion P (credits_of b p log number targets)
each-credits_of P b p log number [] all = tt
each-credits_of P b p log number (t ∷ targets) all =
    chosen (is_log p (account_on_logs b t.0).log) (record { account = t.0; log = log; number = number; amount = t.1 }) (credits_of b p log number targets) all.0
    (each-credits_of P b p log number targets all.1) where
      chosen : (test : Bool) (x : Credit) (rest : List Credit) → (test ≡ true → P x) → AllByRecursion P rest → AllByRecursion P (cond test (x ∷ rest) rest)
      chosen true x rest is others = (is refl, others)
      chosen false x rest is others = others

-- ---- credits below counts

-- where both counts are above the numbers of all, or at none
pub same-below : (account : ℕ) (deps others : List ℕ) (list : List Credit) → All (λ x. is_below deps x ≡ is_below others x) list
    → sum_by (credit_below account deps) list ≡ sum_by (credit_below account others) list
same-below account deps others [] all = refl
same-below account deps others (x ∷ list) all =
    let head : is_below deps x ≡ is_below others x = All-head (λ (x : Credit). is_below deps x ≡ is_below others x) x list all in
    omega (
      arith,
      ap (λ t. cond t (credit_to account x) 0) head,
      same-below account deps others list (All-tail (λ (x : Credit). is_below deps x ≡ is_below others x) x list all),
      sum_by-cons (credit_below account deps) x list,
      sum_by-cons (credit_below account others) x list,
    )

pub all-below : (account : ℕ) (deps : List ℕ) (list : List Credit) → All (λ x. is_below deps x ≡ true) list
    → sum_by (credit_below account deps) list ≡ sum_by (credit_to account) list
all-below account deps [] all = refl
all-below account deps (x ∷ list) all =
    omega (
      arith,
      ap (λ t. cond t (credit_to account x) 0) (All-head (λ (x : Credit). is_below deps x ≡ true) x list all),
      all-below account deps list (All-tail (λ (x : Credit). is_below deps x ≡ true) x list all),
      sum_by-cons (credit_below account deps) x list,
      sum_by-cons (credit_to account) x list,
    )

pub none-below : (account : ℕ) (deps : List ℕ) (list : List Credit) → All (λ x. is_below deps x ≡ false) list → sum_by (credit_below account deps) list ≡ 0
none-below account deps [] all = refl
none-below account deps (x ∷ list) all =
    omega (
      arith,
      ap (λ t. cond t (credit_to account x) 0) (All-head (λ (x : Credit). is_below deps x ≡ false) x list all),
      none-below account deps list (All-tail (λ (x : Credit). is_below deps x ≡ false) x list all),
      sum_by-cons (credit_below account deps) x list,
    )

-- no more than it brings
pub credit_below-le : (account : ℕ) (deps : List ℕ) (x : Credit) → credit_below account deps x ≤ credit_to account x
credit_below-le account deps x = one (is_below deps x) (credit_to account x) where
  one : (t : Bool) (n : ℕ) → cond t n 0 ≤ n
  one true n = omega arith
  one false n = omega arith

-- no more than all
pub sum-below-le : (account : ℕ) (deps : List ℕ) (list : List Credit) → sum_by (credit_below account deps) list ≤ sum_by (credit_to account) list
sum-below-le account deps [] = omega arith
sum-below-le account deps (x ∷ list) =
    omega (
      arith,
      credit_below-le account deps x,
      sum-below-le account deps list,
      sum_by-cons (credit_below account deps) x list,
      sum_by-cons (credit_to account) x list,
    )

-- credits to other accounts
pub no-credit_to : (account : ℕ) (list : List Credit) → All (λ x. x.account ≢ account) list → sum_by (credit_to account) list ≡ 0
no-credit_to account [] all = refl
no-credit_to account (x ∷ list) all =
    let apart : x.account ≢ account = All-head (λ (x : Credit). x.account ≢ account) x list all in
    let none : credit_to account x ≡ 0 = grind (arith, nat_tests, apart) in
    omega (arith, none, no-credit_to account list (All-tail (λ (x : Credit). x.account ≢ account) x list all), sum_by-cons (credit_to account) x list)

-- those below some counts and those that are left, below more counts
pub split-below : (account : ℕ) (deps more : List ℕ) (list : List Credit) → All (λ x. is_below deps x ≡ true → is_below more x ≡ true) list
    → sum_by (credit_below account deps) list + sum_by (credit_below account more) (filter (λ x. not (is_below deps x)) list) ≡ sum_by (credit_below account more) list
split-below account deps more [] all = refl
split-below account deps more (x ∷ list) all =
    omega (
      arith,
      one (is_below deps x) (is_below more x) (credit_to account x) (All-head (λ (x : Credit). is_below deps x ≡ true → is_below more x ≡ true) x list all),
      sum-cond (credit_below account more) (not (is_below deps x)) x (filter (λ x. not (is_below deps x)) list),
      split-below account deps more list (All-tail (λ (x : Credit). is_below deps x ≡ true → is_below more x ≡ true) x list all),
      sum_by-cons (credit_below account deps) x list,
      sum_by-cons (credit_below account more) x list,
    ) where
      one : (t u : Bool) (n : ℕ) → (t ≡ true → u ≡ true) → cond t n 0 + cond (not t) (cond u n 0) 0 ≡ cond u n 0
      one false u n both = omega arith
      one true u n both = omega (arith, ap (λ v. cond v n 0) (both refl))

-- and all that are left
pub split-credit_to : (account : ℕ) (deps : List ℕ) (list : List Credit)
    → sum_by (credit_below account deps) list + sum_by (credit_to account) (filter (λ x. not (is_below deps x)) list) ≡ sum_by (credit_to account) list
split-credit_to account deps [] = refl
split-credit_to account deps (x ∷ list) =
    omega (
      arith,
      one (is_below deps x) (credit_to account x),
      sum-cond (credit_to account) (not (is_below deps x)) x (filter (λ x. not (is_below deps x)) list),
      split-credit_to account deps list,
      sum_by-cons (credit_below account deps) x list,
      sum_by-cons (credit_to account) x list,
    ) where
      one : (t : Bool) (n : ℕ) → cond t n 0 + cond (not t) n 0 ≡ n
      one false n = omega arith
      one true n = omega arith

-- what holds of all holds of those that are left
pub each-filter : (P : Credit → Type 0) (test : Credit → Bool) (list : List Credit) → AllByRecursion P list → AllByRecursion P (filter test list)
each-filter P test [] all = tt
each-filter P test (x ∷ list) all = chosen (test x) (filter test list) (each-filter P test list all.1) where
  chosen : (t : Bool) (rest : List Credit) → AllByRecursion P rest → AllByRecursion P (cond t (x ∷ rest) rest)
  chosen true rest others = (all.0, others)
  chosen false rest others = others

-- targets one after the other
pub credits_of-append : (b : LogTerms) (p log number : ℕ) (first rest : List TargetPair)
    → credits_of b p log number (first ++ rest) ≡ credits_of b p log number first ++ credits_of b p log number rest
credits_of-append b p log number [] rest = refl
credits_of-append b p log number (t ∷ first) rest =
    chosen (is_log p (account_on_logs b t.0).log) (record { account = t.0; log = log; number = number; amount = t.1 }) (credits_of-append b p log number first rest) where
      chosen : (test : Bool) (x : Credit) → credits_of b p log number (first ++ rest) ≡ credits_of b p log number first ++ credits_of b p log number rest
          → cond test (x ∷ credits_of b p log number (first ++ rest)) (credits_of b p log number (first ++ rest))
          ≡ cond test (x ∷ credits_of b p log number first) (credits_of b p log number first) ++ credits_of b p log number rest
      chosen true x same = ap (λ l. x ∷ l) same
      chosen false x same = same
