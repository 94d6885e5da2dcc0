-- Sums of credits by their numbers.
use Rattle.std.proofs.Common.{◌≡◌, ℕ, suc, ◌+◌, ◌-◌, ◌^◌, ◌<◌, ◌≤◌, List, [], ◌∷◌, ◌++◌, length, get_or, take, drop, refl, ap, sym, subst, ◌∙◌, leb, cond, le-leb, arith, length-take, length-drop}
use Rattle.at_broadcast.proofs.Prelude.{All, lt-leb, common_steps, IsNonDecreasingBy-push, take-append-drop, get_or-drop, get_or-take, sum_by-append, sum_by-cons, Credit, AreCredits, amount_since, credit_after, credits_sum}

-- all come since the least number
pub amount_since-all : (number : ℕ) (list : List Credit) → All (λ c. number ≤ c.number) list → amount_since number list ≡ credits_sum list
amount_since-all number [] all = refl
amount_since-all number (c ∷ list) all =
    let head : number ≤ c.number = all 0 c (omega arith) in
    let rest = amount_since-all number list (λ k d within. all (suc k) d (omega arith)) in
    let e : cond (leb number c.number) c.amount 0 ≡ c.amount = ap (λ t. cond t c.amount 0) (le-leb number c.number head) in
    omega (arith, rest, e, sum_by-cons (λ (c : Credit). cond (leb number c.number) c.amount 0) c list, sum_by-cons (λ (c : Credit). c.amount) c list)

-- none comes since a number above all
pub amount_since-none : (number : ℕ) (list : List Credit) → All (λ c. c.number < number) list → amount_since number list ≡ 0
amount_since-none number [] all = refl
amount_since-none number (c ∷ list) all =
    let head : c.number < number = all 0 c (omega arith) in
    let rest = amount_since-none number list (λ k d within. all (suc k) d (omega arith)) in
    let e : cond (leb number c.number) c.amount 0 ≡ 0 = ap (λ t. cond t c.amount 0) (lt-leb number c.number head) in
    omega (arith, rest, e, sum_by-cons (λ (c : Credit). cond (leb number c.number) c.amount 0) c list)

-- what comes since a number is what stands from the first such credit on
pub amount_since-drop : (number : ℕ) (list : List Credit) (i : ℕ) → i ≤ length list
    → ((k : ℕ) (d : Credit) → k < i → (get_or list k d).number < number) → ((k : ℕ) (d : Credit) → i ≤ k → k < length list → number ≤ (get_or list k d).number)
    → amount_since number list + credits_sum (take i list) ≡ credits_sum list
amount_since-drop number list i within below above =
    let earlier = amount_since-none number (take i list) (λ k d h. let lt : k < i = omega (arith, length-take i list) in rw get_or-take (below k d lt)) in
    let later = amount_since-all number (drop i list) (λ k d h. rw get_or-drop (above (i + k) d (omega arith) (omega (arith, length-drop i list)))) in
    let whole = take-append-drop i list in
    omega (
      arith,
      earlier,
      later,
      ap (amount_since number) whole,
      ap credits_sum whole,
      sum_by-append (λ (c : Credit). cond (leb number c.number) c.amount 0) (take i list) (drop i list),
      sum_by-append (λ (c : Credit). c.amount) (take i list) (drop i list),
    )

-- the same of the credits as they are kept: the sum of all less that before the first such credit
pub amount_since-first : (number total : ℕ) (list : List Credit) (i : ℕ) (c : Credit) → AreCredits list total → i < length list
    → ((d : Credit) → c ≡ get_or list i d)
    → ((k : ℕ) (d : Credit) → k < i → (get_or list k d).number < number) → ((k : ℕ) (d : Credit) → i ≤ k → k < length list → number ≤ (get_or list k d).number)
    → total - c.before ≡ amount_since number list
amount_since-first number total list i c credits within here below above =
    let split = amount_since-drop number list i (omega arith) below above in
    let before = ap (λ (c : Credit). c.before) (here c) ∙ credits.before i c within in
    omega (arith, split, before, credits.summed)

-- one more credit, whose number no other's is above
AreCredits-push : (list : List Credit) (total number amount : ℕ) → AreCredits list total → All (λ c. c.number ≤ number) list → amount < 2 ^ 64
    → AreCredits (list ++ credit_after list number amount ∷ []) (total + amount)
AreCredits-push list total number amount is later fits = record {
  ordered = IsNonDecreasingBy-push (λ (c : Credit). c.number) list (credit_after list number amount) is.ordered
      (λ d some. let last : (get_or list (length list - 1) d).number ≤ number = later (length list - 1) d (omega arith) in omega arith);
  before = grind (arith, common_steps, is.before);
  summed = grind (arith, common_steps, is.summed);
  small = grind (arith, common_steps, is.small);
}

-- the same of the list that was pushed to, where the sum of those before it is the total
pub AreCredits-pushed : (list more : List Credit) (total number amount : ℕ) → AreCredits list total → All (λ c. c.number ≤ number) list → amount < 2 ^ 64
    → more ≡ list ++ record { number = number; amount = amount; before = total } ∷ [] → AreCredits more (total + amount)
AreCredits-pushed list more total number amount is later fits e =
    let same : more ≡ list ++ credit_after list number amount ∷ [] = e ∙ ap (λ (n : ℕ). list ++ record { number = number; amount = amount; before = n } ∷ []) is.summed in
    subst (λ l. AreCredits l (total + amount)) (sym same) (AreCredits-push list total number amount is later fits)
