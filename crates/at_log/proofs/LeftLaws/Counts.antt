-- How many own records, requests and receipts of each kind there are, with one more record or one more receipt.
use Rattle.std.proofs.Common.{◌≡◌, ◌≢◌, ℕ, ◌+◌, ◌<◌, ◌≤◌, ◌==◌, ◌&&◌, Bool, true, false, Some, List, [], ◌∷◌, ◌++◌, length, take, refl, sym, ap, subst, ◌∙◌, arith, inl, inr}
use Rattle.at_log.proofs.Prelude.{and_from, cases_lt, eq-eqb, ne_eqb, take_all, sum_by_push, sum_by, BookTerms, TargetPair, payout_of, count_of-push_own, IsPrefix-length, take-IsPrefix, one_if, owns_of-IsPrefix, sum_by-firsts-take_mono, sum_by-firsts_nothing, is_settled-below_named, is_own, names, IsHistory, IsPrefix, count_of, firsts, is_settled, named, owns_of, Entry, Own, Round, Publication, asks_in, is_at_own, is_at_round, is_payout_from, owns_in, Receipt}
use Rattle.at_log.proofs.Laws.Replies.{is_payout_from-payout}

-- own records

pub owns_of-push_own : (p : ℕ) (xs : List Publication) (x : Publication) → x.process ≡ p → is_own x.entry ≡ true
    → owns_of p (xs ++ x ∷ []) ≡ owns_of p xs + 1
owns_of-push_own p xs x process own =
    let test : Publication → Bool = λ y. (y.process == p) && is_own y.entry in
    let here : test x ≡ true = and_from (x.process == p) (is_own x.entry) (eq-eqb x.process p process) own in
    omega (arith, sum_by_push (λ (y : Publication). one_if (test y)) xs x, ap one_if here)

-- a process that has published one record more, an own one at the end, has one own record more
pub owns_of-paid : (p : ℕ) (list lead more : List Publication) (x : Publication) → IsPrefix list lead → more ≡ lead ++ x ∷ [] → x.process ≡ p
    → is_own x.entry ≡ true → count_of p more ≡ count_of p list + 1 → owns_of p more ≡ owns_of p list + 1
owns_of-paid p list lead more x before is process own counted =
    let pushed : count_of p (lead ++ x ∷ []) ≡ count_of p lead + 1 =
    subst (λ t. count_of t (lead ++ x ∷ []) ≡ count_of t lead + 1) process (count_of-push_own lead x) in
    omega (
      arith,
      ap (owns_of p) is,
      owns_of-push_own p lead x process own,
      owns_of-IsPrefix p list lead before (omega (arith, counted, pushed, ap (count_of p) is)),
    )

-- rounds that name a slot

names-own : (a slot : ℕ) (e : Entry) → is_own e ≡ true → one_if (names a slot e) ≡ 0
names-own a slot (Own from targets) own = refl
names-own a slot (Round account round decision targets) own = cc own

-- an own record names none
pub named-push_own : (a slot : ℕ) (xs : List Publication) (x : Publication) → is_own x.entry ≡ true
    → named a slot (xs ++ x ∷ []) ≡ named a slot xs
named-push_own a slot xs x own =
    sum_by-firsts_nothing (λ (y : Publication). one_if (names a slot y.entry)) xs x (inr (names-own a slot x.entry own))

-- no fewer rounds name a slot in a longer list
pub named-IsPrefix : (a slot : ℕ) (list more : List Publication) → IsPrefix list more → named a slot list ≤ named a slot more
named-IsPrefix a slot list more before =
    let f : Publication → ℕ = λ (y : Publication). one_if (names a slot y.entry) in
    omega (
      arith,
      sum_by-firsts-take_mono f more (length list) (length more) (IsPrefix-length list more before),
      ap (λ t. sum_by f (firsts t)) (take-IsPrefix list more before),
      ap (λ t. sum_by f (firsts t)) (take_all (length more) more (omega arith)),
    )

-- where the first requests of a slot are settled, at least as many rounds name it
pub named-at_least : (b : BookTerms) (list : List Publication) (a slot n : ℕ) → IsHistory b list
    → ((number : ℕ) → number < n → is_settled a slot number list ≡ true) → n ≤ named a slot list
named-at_least b list a slot n history settled =
    let all : take (length list) list ≡ list = take_all (length list) list (omega arith) in
    let k = named a slot list in
    elim (cases_lt k n) as (λ _. n ≤ named a slot list) [
      | inl fewer ↦
          let here : is_settled a slot k (take (length list) list) ≡ true = ap (is_settled a slot k) all ∙ settled k fewer in
          absurd (omega (
            arith,
            is_settled-below_named b list (length list) a slot k history (omega arith) here,
            ap (named a slot) all,
          ))
      | inr fits ↦ fits
    ]

-- and as many, where all announced ones are settled and no more rounds name it than are announced
pub named-all_settled : (b : BookTerms) (list : List Publication) (a slot n : ℕ) → IsHistory b list → named a slot list ≤ n
    → ((number : ℕ) → number < n → is_settled a slot number list ≡ true) → named a slot list ≡ n
named-all_settled b list a slot n history few settled = omega (arith, few, named-at_least b list a slot n history settled)

-- one more receipt

pub owns_in-push : (receipts : List Receipt) (r : Receipt) → owns_in (receipts ++ r ∷ []) ≡ owns_in receipts + one_if (is_at_own r.at)
owns_in-push receipts r = sum_by_push (λ (x : Receipt). one_if (is_at_own x.at)) receipts r

pub asks_in-push : (a : ℕ) (receipts : List Receipt) (r : Receipt)
    → asks_in a (receipts ++ r ∷ []) ≡ asks_in a receipts + one_if (is_at_round r.at && is_payout_from a r.call)
asks_in-push a receipts r = sum_by_push (λ (x : Receipt). one_if (is_at_round x.at && is_payout_from a x.call)) receipts r

-- that stands in no round asks for nothing
pub asks_in-push_still : (a : ℕ) (receipts : List Receipt) (r : Receipt) → is_at_round r.at ≡ false
    → asks_in a (receipts ++ r ∷ []) ≡ asks_in a receipts
asks_in-push_still a receipts r still =
    omega (arith, asks_in-push a receipts r, ap (λ t. one_if (t && is_payout_from a r.call)) still)

-- and one in a round asks once on its source
pub asks_in-push_source : (receipts : List Receipt) (r : Receipt) (source : ℕ) (targets : List TargetPair) → is_at_round r.at ≡ true
    → payout_of r.call ≡ Some (source, targets) → asks_in source (receipts ++ r ∷ []) ≡ asks_in source receipts + 1
asks_in-push_source receipts r source targets at call =
    let pays : is_payout_from source r.call ≡ true = is_payout_from-payout source source targets r.call call ∙ eq-eqb source source refl in
    omega (
      arith,
      asks_in-push source receipts r,
      ap one_if (and_from (is_at_round r.at) (is_payout_from source r.call) at pays),
    )

-- and nowhere else
pub asks_in-push_elsewhere : (a : ℕ) (receipts : List Receipt) (r : Receipt) (source : ℕ) (targets : List TargetPair)
    → payout_of r.call ≡ Some (source, targets) → a ≢ source → asks_in a (receipts ++ r ∷ []) ≡ asks_in a receipts
asks_in-push_elsewhere a receipts r source targets call apart =
    let none : is_payout_from a r.call ≡ false =
    is_payout_from-payout a source targets r.call call ∙ ne_eqb source a (λ e. apart (sym e)) in
    omega (arith, asks_in-push a receipts r, ap (λ t. one_if (is_at_round r.at && t)) none ∙ ap one_if (and_false (is_at_round r.at)))
  where
    and_false : (t : Bool) → (t && false) ≡ false
    and_false true = refl
    and_false false = refl
