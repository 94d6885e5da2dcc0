use Rattle.at_orders.proofs.Prelude.{common_steps, AreKept}
use Rattle.std.proofs.Common.{ℕ, ◌-◌, List, get_or, set, subst, arith}
use Rattle.at_orders.proofs.Keeping.{kept-set}
use Rattle.at_orders.proofs.stage.debit.Goals as goal

pub overflow_sub-balances : goal.overflow_sub-balances
overflow_sub-balances c =
    let here = c.requires.covered.1.each c.args.account c.place.result c.place.ensures.place in
    let covered = c.requires.covered.2 in
    omega (arith, here, covered)

pub returns-clause-debited : goal.returns-clause-debited
returns-clause-debited c all are =
    let g = c.args.ground.now in
    let kept : List ℕ = c.args.balances.now in
    let here = are.each c.args.account c.place.result c.place.ensures.place in
    subst (λ (n : ℕ). AreKept g (set kept c.place.result (n - c.args.amount)) (set all c.args.account (get_or all c.args.account 0 - c.args.amount))) here
    (kept-set g kept all c.args.account c.place.result (get_or all c.args.account 0 - c.args.amount) c.book-known.ensures.known.places c.requires.kept c.place.ensures.place are)

pub bounds-balances-place-2 : goal.bounds-balances-place-2
bounds-balances-place-2 c = grind (arith, common_steps)
