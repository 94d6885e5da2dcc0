use Rattle.at_orders.proofs.Prelude.{common_steps, TargetPair}
use Rattle.std.proofs.Common.{◌≡◌, ℕ, ◌+◌, ◌<◌, Some, None, List, length, get_or, set, sym, ap, subst, ◌∙◌, arith}
use Rattle.at_orders.proofs.Crediting.{IsCreditedTo, credited-all, credited-fits, credited-kept, credited-other}
use Rattle.at_orders.proofs.stage.credit.Goals as goal
use Rattle.at_orders.proofs.stage.credit.Goals.{in-Some, in_default}

pub overflow_add-balances : goal.overflow_add-balances
overflow_add-balances c =
    let g = c.args.ground.now in
    let targets : List TargetPair = c.args.targets.now in
    let i : ℕ = c.loop-i.i in
    let within : i < length targets = let less = c.loop-i-test.true in let count = c.len-i-end.ensures.count in omega arith in
    let place : get_or g.places (get_or targets i (0, 0)).0 None ≡ Some c.in-Some.place =
    ap (λ (n : ℕ). get_or g.places n None) (sym c.to.ensures) ∙ (sym c.find.ensures.place ∙ c.in-Some.is) in
    let done = c.loop-i.invariant.credited c.requires.fits.0 c.requires.fits.1 in
    let fits = credited-fits g c.loop-i.balances c.requires.fits.0 targets i c.in-Some.place 18446744073709551616 c.book-known.ensures.known.places within place c.requires.fits.2 done in
    let amount = c.amount.ensures in
    omega (arith, fits, amount)

pub loop-i-preserved : goal.loop-i-preserved
loop-i-preserved c =
    let g = c.args.ground.now in
    let kept : List ℕ = c.loop-i.balances in
    let targets : List TargetPair = c.args.targets.now in
    let i : ℕ = c.loop-i.i in
    let within : i < length targets = let less = c.loop-i-test.true in let count = c.len-i-end.ensures.count in omega arith in
    let law = c.book-known.ensures.known.places in
    let sized = c.loop-i.invariant.kept ∙ c.requires.kept in
    let found : get_or g.places (get_or targets i (0, 0)).0 None ≡ c.find.result = ap (λ (n : ℕ). get_or g.places n None) (sym c.to.ensures) ∙ sym c.find.ensures.place in
    record {
      credited = λ all are. elim c.match-find.branch [
        | in-Some w ↦
            subst (λ (xs : List ℕ). IsCreditedTo g xs all targets (i + 1)) (sym w.balances-is)
            (subst (λ (n : ℕ). IsCreditedTo g (set kept w.in-Some.place (get_or kept w.in-Some.place 0 + n)) all targets (i + 1)) (sym w.amount.ensures)
            (credited-kept g kept all targets i w.in-Some.place law sized c.requires.targets_in within (found ∙ w.in-Some.is) (c.loop-i.invariant.credited all are)))
        | in_default w ↦
            subst (λ (xs : List ℕ). IsCreditedTo g xs all targets (i + 1)) (sym w.balances-is)
            (credited-other g kept all targets i c.requires.targets_in within (found ∙ w.in_default.is) (c.loop-i.invariant.credited all are))
      ];
      kept = c.match-find.auto.balances ∙ c.loop-i.invariant.kept;
    }

pub returns-clause-credited : goal.returns-clause-credited
returns-clause-credited c all are =
    credited-all c.args.ground.now c.loop-i.balances all c.args.targets.now c.loop-i.i
    (let past = c.loop-i-test.false in let count = c.len-i-end.ensures.count in omega arith) (c.loop-i.invariant.credited all are)

pub find-requires : goal.find-requires
find-requires c = grind (arith, common_steps)

pub amount-requires : goal.amount-requires
amount-requires c = grind (arith, common_steps)

pub to-requires : goal.to-requires
to-requires c = grind (arith, common_steps)
