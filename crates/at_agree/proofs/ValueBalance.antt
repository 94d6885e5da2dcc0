-- The balance of the account that takes a process's value: nothing, and once the process has proposed, its value.
use Rattle.std.proofs.Common.{◌≡◌, ℕ, ◌+◌, ◌*◌, ◌<◌, ◌≤◌, ◌==◌, ◌&&◌, zero, suc, Bool, true, false, cond, List, length, take, refl, sym, ap, subst, ◌∙◌, arith, inl, inr, ◌⊎◌}
use Rattle.at_agree.proofs.Prelude.{cond_both, cases_eq, eq-eqb, ne_eqb, sum_by_push, sum_by-take-le, AccountTerms, account_of, TargetPair, amount_of, take-publication_at, one_if, published, sum_by-firsts_new, sum_by-firsts_nothing, repeats-own, amount_for, balance_after, credit_of, credits, debit_of, debits, publication_at, is_own, firsts, owns_of, repeats, Entry, Own, Round, Publication, council_book, value_account, HasProposed, IsPlanned, KeepsPlan, share_of, value_targets, winner_of}
use Rattle.at_agree.proofs.CouncilBook.{account_of-value}
use Rattle.at_agree.proofs.SharedBalance.{amount_for-one, sum_by-firsts_none}
use Rattle.at_agree.proofs.Shown.{IsCouncilList}

-- what a record that is planned gives a value account
credit_of-own : (k p q from value : ℕ) (targets : List TargetPair) → targets ≡ value_targets k q value
    → credit_of (value_account k p) (Own from targets) ≡ cond (q == p) value 0
credit_of-own k p q from value targets targets_is =
    ap (amount_for (k + p)) targets_is ∙ (amount_for-one (k + p) (k + q) value ∙ ap (λ t. cond t value 0) (same_test (cases_eq q p)))
  where
    same_test : (q ≡ p) ⊎ (q ≡ p → ⊥) → (k + q == k + p) ≡ (q == p)
    same_test (inl same) = eq-eqb (k + q) (k + p) (omega (arith, same)) ∙ sym (eq-eqb q p same)
    same_test (inr apart) = ne_eqb (k + q) (k + p) (λ e. apart (omega (arith, e))) ∙ sym (ne_eqb q p apart)

credit_of-round : (k p : ℕ) (before : List Publication) (q : ℕ) (e : Entry) → p < k → is_own e ≡ false → IsPlanned k before q e
    → credit_of (value_account k p) e ≡ 0
credit_of-round k p before q (Own from targets) known other plan = absurd (cc other)
credit_of-round k p before q (Round account round d targets) known other (account_is, targets_is, proposed) =
    let c = share_of k (winner_of k d) in
    let none : amount_for (k + p) targets ≡ 0 = ap (amount_for (k + p)) targets_is ∙ (amount_for-one (k + p) (2 * k + 1) c
    ∙ ap (λ t. cond t c 0) (ne_eqb (2 * k + 1) (k + p) (λ e. omega (arith, e, known)))) in
    ap (λ n. cond d.ok n 0) none ∙ cond_both {A = ℕ} d.ok 0 0 (λ n. n ≡ 0) (λ e. refl) (λ e. refl)

-- nothing is ever paid from it
debit_of-value : (k p : ℕ) (before : List Publication) (q : ℕ) (e : Entry) → p < k → q < k → IsPlanned k before q e
    → debit_of (value_account k p) e ≡ 0
debit_of-value k p before q (Own from targets) known there (value, from_is, targets_is) =
    ap (λ t. cond t (amount_of targets) 0) (ne_eqb from (k + p) (λ e. omega (arith, e, from_is, there)))
debit_of-value k p before q (Round account round d targets) known there (account_is, targets_is, proposed) =
    neither d.ok (account == k + p) (ne_eqb account (k + p) (λ e. omega (arith, e, account_is, known)))
  where
    neither : (ok same : Bool) → same ≡ false → cond (ok && same) (amount_of targets) 0 ≡ 0
    neither true same is = ap (λ t. cond t (amount_of targets) 0) is
    neither false same is = refl

-- what stands of the value of process p after a prefix
pub data Keeps (k : ℕ) (list : List Publication) (p m : ℕ) : Type 0 where
  none : owns_of p (take m list) ≡ 0 → credits (value_account k p) (take m list) ≡ 0 → Keeps k list p m
  one : 1 ≤ owns_of p (take m list) → HasProposed k list p (credits (value_account k p) (take m list)) → Keeps k list p m

module _ (k : ℕ) (list : List Publication) (p m : ℕ) where
  same_credits : (n : ℕ) → credits (value_account k p) (take (m + 1) list) ≡ credits (value_account k p) (take m list)
      → owns_of p (take (m + 1) list) ≡ owns_of p (take m list) → Keeps k list p m → Keeps k list p (m + 1)
  same_credits n same owns (none no_own nothing) = none (owns ∙ no_own) (same ∙ nothing)
  same_credits n same owns (one some proposed) = one (omega (arith, some, owns)) (subst (HasProposed k list p) (sym same) proposed)

  -- one more own record, of whichever process
  keeps_own : (q from value : ℕ) (targets : List TargetPair) → IsCouncilList k list → m < length list
      → (publication_at list m).process ≡ q → (publication_at list m).entry ≡ Own from targets → from ≡ q → targets ≡ value_targets k q value
      → Keeps k list p m → Keeps k list p (m + 1)
  keeps_own q from value targets shown within process_is is from_is targets_is before =
      let x : Publication = publication_at list m in
      let more = take-publication_at list m within in
      let gives : Publication → ℕ = λ y. credit_of (value_account k p) y.entry in
      let owning : Publication → ℕ = λ y. one_if ((y.process == p) && is_own y.entry) in
      let new : repeats x (firsts (take m list)) ≡ false =
      ap (λ (e : Entry). repeats (published x.process x.view e) (firsts (take m list))) is ∙ repeats-own x.process x.view from targets (firsts (take m list)) in
      let credits_is : credits (value_account k p) (take (m + 1) list) ≡ credits (value_account k p) (take m list) + cond (q == p) value 0 =
      omega (arith, ap (credits (value_account k p)) more, sum_by-firsts_new gives (take m list) x new, ap (credit_of (value_account k p)) is ∙ credit_of-own k p q from value targets targets_is) in
      let here : owning x ≡ one_if ((q == p) && true) = λ t. one_if ((process_is t == p) && is_own (is t)) in
      let owns_is : owns_of p (take (m + 1) list) ≡ owns_of p (take m list) + one_if ((q == p) && true) =
      omega (arith, ap (owns_of p) more, sum_by_push owning (take m list) x, here) in
      elim (cases_eq q p) as (λ _. Keeps k list p (m + 1)) [
        | inl same ↦
            let once : owns_of p (take (m + 1) list) ≡ owns_of p (take m list) + 1 =
            owns_is ∙ ap (λ t. owns_of p (take m list) + one_if (t && true)) (eq-eqb q p same) in
            let value_is : credits (value_account k p) (take (m + 1) list) ≡ credits (value_account k p) (take m list) + value =
            credits_is ∙ ap (λ t. credits (value_account k p) (take m list) + cond t value 0) (eq-eqb q p same) in
            elim before as (λ _. Keeps k list p (m + 1)) [
              | none no_own nothing ↦
                  let all : value ≡ credits (value_account k p) (take (m + 1) list) = omega (arith, value_is, nothing) in
                  one (omega (arith, once))
                  (record {
                    position = m;
                    within = within;
                    process_is = process_is ∙ same;
                    entry = is ∙ (λ t. Own ((from_is ∙ same) t) ((targets_is ∙ (λ j. value_targets k (same j) (all j))) t));
                  })
              | one some proposed ↦ absurd (omega (arith, some, once, sum_by-take-le owning list (m + 1), shown.own_room p))
            ]
        | inr apart ↦
            same_credits m (credits_is ∙ (ap (λ t. credits (value_account k p) (take m list) + cond t value 0) (ne_eqb q p apart) ∙ omega arith))
            (owns_is ∙ (ap (λ t. owns_of p (take m list) + one_if (t && true)) (ne_eqb q p apart) ∙ omega arith)) before
      ]

  -- one more record of any kind
  keeps_more : (e : Entry) → p < k → IsCouncilList k list → KeepsPlan k list → m < length list → (publication_at list m).entry ≡ e
      → Keeps k list p m → Keeps k list p (m + 1)
  keeps_more (Own from targets) known shown planned within is before =
      let x : Publication = publication_at list m in
      let plan : IsPlanned k (take m list) x.process (Own from targets) = subst (IsPlanned k (take m list) x.process) is (planned m within) in
      keeps_own x.process from plan.0 targets shown within refl is plan.1 plan.2 before
  keeps_more (Round account r d targets) known shown planned within is before =
      let x : Publication = publication_at list m in
      let more = take-publication_at list m within in
      let gives : Publication → ℕ = λ y. credit_of (value_account k p) y.entry in
      let owning : Publication → ℕ = λ y. one_if ((y.process == p) && is_own y.entry) in
      let light : gives x ≡ 0 = credit_of-round k p (take m list) x.process x.entry known (ap is_own is) (planned m within) in
      let none : owning x ≡ 0 = ap (λ e. one_if ((x.process == p) && is_own e)) is ∙ never (x.process == p) in
      same_credits m (ap (credits (value_account k p)) more ∙ sum_by-firsts_nothing gives (take m list) x (inr light))
      (omega (arith, ap (owns_of p) more, sum_by_push owning (take m list) x, none)) before
    where
      never : (t : Bool) → one_if (t && false) ≡ 0
      never true = refl
      never false = refl

keeps : (k : ℕ) (list : List Publication) (p m : ℕ) → p < k → IsCouncilList k list → KeepsPlan k list → m ≤ length list → Keeps k list p m
keeps k list p zero known shown planned within =
    none refl (sum_by-firsts_none (λ y. credit_of (value_account k p) y.entry) list 0 within (λ i below. absurd (omega arith)))
keeps k list p (suc m) known shown planned within =
    let e : m + 1 ≡ suc m = omega arith in
    subst (Keeps k list p) e
    (keeps_more k list p m (publication_at list m).entry known shown planned (omega arith) refl (keeps k list p m known shown planned (omega arith)))

-- once the process has proposed, its value account has its value
pub balance-value : (k : ℕ) (list : List Publication) (p m : ℕ) → p < k → IsCouncilList k list → KeepsPlan k list → m ≤ length list
    → 1 ≤ owns_of p (take m list) → HasProposed k list p (balance_after (council_book k) (take m list) (value_account k p))
balance-value k list p m known shown planned within some =
    let a = value_account k p in
    let paid : debits a (take m list) ≡ 0 =
    sum_by-firsts_none (λ y. debit_of a y.entry) list m within (λ i below.
    let x : Publication = publication_at list i in
    debit_of-value k p (take i list) x.process x.entry known (shown.known i (omega arith)) (planned i (omega arith))) in
    let opening : (account_of (council_book k) a).opening ≡ 0 = ap (λ (t : AccountTerms). t.opening) (account_of-value k p known) in
    let all : credits a (take m list) ≡ balance_after (council_book k) (take m list) a = omega (arith, paid, opening) in
    elim (keeps k list p m known shown planned within) as (λ _. HasProposed k list p (balance_after (council_book k) (take m list) a)) [
      | none no_own nothing ↦ absurd (omega (arith, some, no_own))
      | one there proposed ↦ subst (HasProposed k list p) all proposed
    ]
