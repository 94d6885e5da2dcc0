use Rattle.std.proofs.Common.{◌≡◌, ◌+◌, ◌++◌, ap, arith, length, map, get_or, replicate, subst, subst₂, sym, ◌∙◌, sum}
use Rattle.std.specs.Prelude.{None, Some}
use Rattle.at_journal.proofs.Prelude.{option_copied, get_or-map, length-map, log_lengths, AreRecords, published_in, records_between}
use Rattle.at_journal.proofs.OrderSteps.{AreRecords-last, HasOrder, HasOrder-cut, HasOrder-none, HasOrder-zeros, published_in-last}
use Rattle.at_journal.proofs.order.order_of.Goals as goal
use Rattle.at_journal.proofs.order.order_of.Goals.{In-Some, After-push_last}
use Rattle.at_journal.proofs.order.order_of.Goals.{in-Some+in_ok-push_next, in_default}

pub loop-place-init : goal.loop-place-init
loop-place-init c =
    let closing = c.args.closing.now in
    let zeros : c.zeros-nothing.result ≡ replicate (length closing.logs) 0 = c.zeros-nothing.ensures ∙ ap (λ n. replicate n 0) c.processes.ensures.logs in
    subst₂ (HasOrder closing 0) (sym c.in_ok-order.ensures.items) (sym zeros) (HasOrder-zeros closing)

-- what stands at a place
at_place : (c : In-Some) → get_or (map option_copied c.args.cuts.now) c.loop-place.place None ≡ Some c.in-Some.cut.now
at_place c =
    get_or-map option_copied c.args.cuts.now c.loop-place.place _ None (omega (arith, c.loop-place-test.true)) ∙ ap option_copied c.in-Some.is

pub push_next-requires : goal.push_next-requires
push_next-requires c =
    let held = c.requires.held.held c.loop-place.place c.in-Some.cut.now (at_place (goal.at.push_next-requires c).In-Some) in
    c.loop-place.invariant.size ∙ sym (c.requires.within c.in-Some.cut.now held.0).0

pub loop-place-preserved : goal.loop-place-preserved
loop-place-preserved c =
    let closing = c.args.closing.now in
    let k = c.loop-place.place in
    let size : length c.args.cuts.now ≡ sum (log_lengths closing) = sym (length-map c.args.cuts.now option_copied) ∙ c.requires.held.sized in
    elim c.match-cuts-place.branch [
      | in-Some+in_ok-push_next w ↦
          let view = w.in-Some.cut.now in
          let at : get_or (map option_copied c.args.cuts.now) k None ≡ Some view =
          get_or-map option_copied c.args.cuts.now k _ None (omega (arith, c.loop-place-test.true)) ∙ ap option_copied w.in-Some.is in
          let held = c.requires.held.held k view at in
          subst₂ (HasOrder closing (k + 1)) (sym (ap (λ v. v.items) w.order-is ∙ w.in_ok-push_next.ensures ∙ ap (λ n. c.loop-place.order.items ++ records_between n (λ p. get_or c.loop-place.listed.now p 0) (λ p. get_or view p 0)) (c.requires.within view held.0).0))
          (sym (ap (λ r. r.now) w.listed-is))
          (HasOrder-cut closing k c.loop-place.order.items c.loop-place.listed.now view c.requires.within c.requires.nested held.0 held.1 c.loop-place.invariant)
      | in_default w ↦
          let order = c.loop-place.order.items in
          let at : get_or (map option_copied c.args.cuts.now) k None ≡ None =
          get_or-map option_copied c.args.cuts.now k _ None (omega (arith, c.loop-place-test.true)) ∙ ap option_copied w.in_default.is in
          subst₂ (HasOrder closing (k + 1)) (sym (ap (λ v. v.items) w.order-is)) (sym (ap (λ r. r.now) w.listed-is))
          (HasOrder-none closing k order c.loop-place.listed.now (omega (arith, c.loop-place-test.true, size))
          (λ view held here. c.requires.held.all view held (omega (arith, c.loop-place-test.true, size, here)) (subst (λ m. get_or (map option_copied c.args.cuts.now) m None ≡ None) (sym here) at))
          c.loop-place.invariant)
    ]

-- the order up to the end
ended : (c : After-push_last) → HasOrder c.args.closing.now (sum (log_lengths c.args.closing.now)) c.loop-place.order.items c.loop-place.listed.now
ended c =
    let all : c.loop-place.place ≡ sum (log_lengths c.args.closing.now) =
    omega (arith, length-map c.args.cuts.now option_copied, c.requires.held.sized, c.loop-place-test.false) in
    subst (λ k. HasOrder c.args.closing.now k c.loop-place.order.items c.loop-place.listed.now) all c.loop-place.invariant

pub returns-clause-order : goal.returns-clause-order
returns-clause-order c =
    ap (published_in c.args.closing.now) c.in_ok-push_last.ensures
    ∙ published_in-last c.args.closing.now c.loop-place.order.items c.loop-place.listed.now (ended (goal.at.returns-clause-order c).After-push_last)

pub returns-clause-records : goal.returns-clause-records
returns-clause-records c =
    let closing = c.args.closing.now in
    subst (AreRecords closing) (sym c.in_ok-push_last.ensures)
    (AreRecords-last closing (sum (log_lengths closing)) c.loop-place.order.items c.loop-place.listed.now (ended (goal.at.returns-clause-records c).After-push_last))
