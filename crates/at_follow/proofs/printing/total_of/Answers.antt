use Rattle.std.proofs.Common.{ℕ, ◌<◌, ◌≤◌, ap, sum, length, ◌∙◌, arith}
use Rattle.at_follow.proofs.Prelude.{sum_by_more_le, take_all}
use Rattle.at_follow.proofs.printing.total_of.Goals as goal

pub overflow_add-total : goal.overflow_add-total
overflow_add-total c =
    let balances = c.args.node.now.core.balances in
    let a = c.loop-account.account in
    let within : a < length balances = omega (arith, c.loop-account-test.true, c.loop-account.auto.account-end, c.accounts-account-end.ensures.count, c.requires.balances) in
    let book = c.accounts-account-end.ensures.checked in
    omega (arith, c.loop-account.invariant, c.balance-total.ensures, sum_by_more_le (λ (n : ℕ). n) balances a 0 within, c.requires.total, book.begun.total)

pub returns : goal.returns
returns c =
    let balances = c.args.node.now.core.balances in
    let all : length balances ≤ c.loop-account.account = omega (arith, c.loop-account-test.false, c.loop-account.auto.account-end, c.accounts-account-end.ensures.count, c.requires.balances) in
    c.loop-account.invariant ∙ ap sum (take_all c.loop-account.account balances all)
