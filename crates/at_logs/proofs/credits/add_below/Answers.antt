use Rattle.std.proofs.Common.{◌≡◌, ℕ, ◌<◌, List, length, get_or, cond, refl, ap, arith}
use Rattle.at_logs.proofs.Prelude.{eq-eqb, sum_by_more_le_part, Credit, credit_below, credit_to}
use Rattle.at_logs.proofs.CreditLaws.{credit_below-le}
use Rattle.at_logs.proofs.credits.add_below.Goals as goal

pub overflow_add-settled : goal.overflow_add-settled
overflow_add-settled c =
    let xs : List Credit = c.args.credits.now in
    let deps : List ℕ = c.args.deps.now in
    let i : ℕ = c.loop-credit.credit-index in
    let d : Credit = record { account = 0; log = 0; number = 0; amount = 0 } in
    let x : Credit = get_or xs i d in
    let known : x.account < length c.args.settled.now = c.requires.accounts i d c.loop-credit-test.true in
    let whole : credit_to x.account x ≡ x.amount = ap (λ t. cond t x.amount 0) (eq-eqb x.account x.account refl) in
    omega (
      arith,
      c.loop-credit.invariant x.account known,
      sum_by_more_le_part (credit_below x.account deps) (credit_to x.account) xs i d c.loop-credit-test.true (credit_below-le x.account deps),
      c.requires.fits i d c.loop-credit-test.true,
      whole,
    )
