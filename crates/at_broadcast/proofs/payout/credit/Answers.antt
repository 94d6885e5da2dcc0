use Rattle.std.proofs.Common.{◌<◌, length, sym, ◌∙◌, arith}
use Rattle.at_broadcast.proofs.Prelude.{common_steps, All-get_or, get_or-le-sum_by, amount_of-drop_more, credited-drop_more, credited-drop_all, sum-set_more}
use Rattle.at_broadcast.proofs.payout.credit.Goals as goal

pub overflow_add-balances : goal.overflow_add-balances
overflow_add-balances c =
    let within : c.loop-i.i < length c.args.targets.now = omega arith in
    let known = All-get_or (λ t. t.0 < length c.args.balances.now) _ c.loop-i.i (0, 0) within c.requires.targets_in in
    let more = amount_of-drop_more c.args.targets.now c.loop-i.i within in
    let inside : c.to.result < length c.loop-i.balances = omega (arith, known) in
    omega (arith, more, get_or-le-sum_by (λ n. n) c.loop-i.balances c.to.result 0 inside)

pub loop-i-preserved : goal.loop-i-preserved
loop-i-preserved c =
    let within : c.loop-i.i < length c.args.targets.now = omega arith in
    let known = All-get_or (λ t. t.0 < length c.args.balances.now) _ c.loop-i.i (0, 0) within c.requires.targets_in in
    let more = amount_of-drop_more c.args.targets.now c.loop-i.i within in
    let inside : c.to.result < length c.loop-i.balances = omega (arith, known) in (
      rw (c.to.ensures, c.amount.ensures) (sym (credited-drop_more c.loop-i.balances c.args.targets.now c.loop-i.i within) ∙ c.loop-i.invariant.0),
      omega (arith, more, sum-set_more c.loop-i.balances c.to.result c.amount.result inside),
    )

pub returns : goal.returns
returns c =
    sym (credited-drop_all c.loop-i.balances c.args.targets.now c.loop-i.i (omega arith)) ∙ c.loop-i.invariant.0

pub bounds-balances-to-in-loop-i : goal.bounds-balances-to-in-loop-i
bounds-balances-to-in-loop-i c = grind (arith, common_steps)

pub bounds-balances-to : goal.bounds-balances-to
bounds-balances-to c = grind (arith, common_steps)
