use Rattle.std.proofs.Common.{◌≡◌, ◌∙◌, arith, get_or, inl, inr, sym, ap, set}
use Rattle.at_object.proofs.Prelude.{cases_eq, get_or-set_other, get_or-set_same, balance_after, prefix_of, CountsAccount}
use Rattle.at_object.proofs.reads.put_balances.Goals as goal

pub loop-account-init : goal.loop-account-init
loop-account-init c = λ seen counted cut a below. absurd (omega (arith, below))

pub balance-requires : goal.balance-requires
balance-requires c = (
  c.args.book.now,
  c.requires.counted.0,
  record { counted = c.requires.counted.1; account_in = omega (arith, c.loop-account-test.true, c.accounts-count.ensures.count) },
  c.requires.counted.2,
)

pub loop-account-preserved : goal.loop-account-preserved
loop-account-preserved c = λ seen counted cut a below.
    let out = c.loop-account.out in
    let account = c.loop-account.account in
    let balance = c.balance.result in
    let list = prefix_of c.args.totals.now.upto seen in
    let inside : CountsAccount c.args.totals.now c.args.book.now seen account =
    record { counted = counted; account_in = omega (arith, c.loop-account-test.true, c.accounts-count.ensures.count) } in
    elim (cases_eq account a) as (λ _. get_or (set out account balance) a 0 ≡ balance_after c.args.book.now list a) [
      | inl same ↦
          ap (λ i. get_or (set out account balance) i 0) (sym same)
          ∙ (get_or-set_same out account balance 0 (omega (arith, c.loop-account-test.true, c.accounts-count.ensures.count, c.requires.room, c.loop-account.auto.out))
          ∙ (c.balance.ensures c.args.book.now seen inside cut ∙ ap (balance_after c.args.book.now list) same))
      | inr apart ↦
          get_or-set_other out account a balance 0 (λ e. apart (sym e))
          ∙ c.loop-account.invariant seen counted cut a (omega (arith, below, apart))
    ]

pub returns-clause-each : goal.returns-clause-each
returns-clause-each c = λ seen counted cut a below.
    c.loop-account.invariant seen counted cut a (omega (arith, below, c.loop-account-test.false, c.accounts-count.ensures.count))
