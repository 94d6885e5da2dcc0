use Rattle.std.proofs.Common.{◌≡◌, ℕ, ◌+◌, ◌-◌, ◌<◌, ◌≤◌, List, length, get_or, set, sum_by, take, cond, refl, ap, sym, inl, inr, arith, get_or-set_same, get_or-set_other}
use Rattle.at_logs.proofs.Prelude.{cases_eq, eq-eqb, eqb_tells, sum_by_more, sum_by_more_le, Credit, credit_to}
use Rattle.at_logs.proofs.checking.take_credits.Goals as goal

-- an amount is taken from the account of a credit, and from no other
taken : (before left : List ℕ) (xs : List Credit) (i : ℕ) (d : Credit) (a : ℕ) → i < length xs → (get_or xs i d).account < length left
    → (get_or xs i d).amount ≤ get_or left (get_or xs i d).account 0 → get_or left a 0 + sum_by (credit_to a) (take i xs) ≡ get_or before a 0
    → get_or (set left (get_or xs i d).account (get_or left (get_or xs i d).account 0 - (get_or xs i d).amount)) a 0 + sum_by (credit_to a) (take (i + 1) xs) ≡ get_or before a 0
taken before left xs i d a within inside enough so_far =
    let x : Credit = get_or xs i d in
    let after : List ℕ = set left x.account (get_or left x.account 0 - x.amount) in
    elim (cases_eq a x.account) as (λ _. get_or after a 0 + sum_by (credit_to a) (take (i + 1) xs) ≡ get_or before a 0) [
      | inl same ↦
          let to : credit_to a x ≡ x.amount = ap (λ t. cond t x.amount 0) (eq-eqb x.account a (sym same)) in
          omega (
            arith,
            to,
            so_far,
            ap (λ k. get_or after k 0) same,
            ap (λ k. get_or left k 0) same,
            get_or-set_same left x.account (get_or left x.account 0 - x.amount) 0 inside,
            enough,
            sum_by_more (credit_to a) xs i d within,
          )
      | inr apart ↦
          let to : credit_to a x ≡ 0 = elim (eqb_tells x.account a) as (λ _. credit_to a x ≡ 0) [ inl t ↦ absurd (apart (sym t.1)) | inr t ↦ ap (λ t. cond t x.amount 0) t.0 ] in
          omega (arith, to, so_far, get_or-set_other left x.account a (get_or left x.account 0 - x.amount) 0 apart, sum_by_more (credit_to a) xs i d within)
    ]

pub loop-credit-preserved : goal.loop-credit-preserved
loop-credit-preserved c = λ a.
    let xs : List Credit = c.args.credits.now in
    let i : ℕ = c.loop-credit.credit-index in
    let d : Credit = record { account = 0; log = 0; number = 0; amount = 0 } in
    taken c.args.left.now c.loop-credit.left xs i d a c.loop-credit-test.true (omega (arith, c.requires i d c.loop-credit-test.true, c.loop-credit.auto.left)) c.if-left-account.false
    (c.loop-credit.invariant a)

pub returns-then-left-account-clause-short : goal.returns-then-left-account-clause-short
returns-then-left-account-clause-short c = λ all.
    let xs : List Credit = c.args.credits.now in
    let i : ℕ = c.loop-credit.credit-index in
    let d : Credit = record { account = 0; log = 0; number = 0; amount = 0 } in
    let x : Credit = get_or xs i d in
    let whole : credit_to x.account x ≡ x.amount = ap (λ t. cond t x.amount 0) (eq-eqb x.account x.account refl) in
    absurd (omega (arith, all i d c.loop-credit-test.true, sum_by_more_le (credit_to x.account) xs i d c.loop-credit-test.true, c.loop-credit.invariant x.account, whole))
