use Rattle.std.proofs.Common.{◌<◌, ℕ, List, Option, true≢false, sym, ◌∙◌, subst, arith, get_or}
use Rattle.at_orders.proofs.Prelude.{IsAt, Stage}
use Rattle.at_orders.proofs.Trails.{IsAmong, among-latest, bound-falls, bound_of, among-left, among-twin, link-here, same-sym, same-test, same-told, same-trans}
use Rattle.at_orders.proofs.trail.Trail.has.Goals as goal

pub loop-at-init : goal.loop-at-init
loop-at-init c stages trail =
    subst (IsAmong stages c.args.self.now.begun c.args.stage.now) (sym (c.copied-at.ensures ∙ c.get.ensures.value))
    (among-latest c.args.ground.now c.args.self.now stages c.args.stage.now c.args.hash c.requires.hashed trail)

pub recall-requires-clause-within : goal.recall-requires-clause-within
recall-requires-clause-within c =
    let trail = c.requires.trail.1 in
    let told = (c.loop-at.invariant c.requires.trail.0 trail).is c.in-Some.i c.args.stage.now c.in-Some.is in
    let size = trail.size in
    omega (arith, told.1)

pub returns-then-eq-clause-found : goal.returns-then-eq-clause-found
returns-then-eq-clause-found c is stages trail =
    let told = (c.loop-at.invariant stages trail).is c.in-Some.i c.args.stage.now c.in-Some.is in
    record {
      one = c.in-Some.i;
      from = told.0;
      is = record {
        within = told.1;
        same = λ d. same-trans (get_or stages c.in-Some.i d) c.recall.new.stage c.args.stage.now
            (same-sym c.recall.new.stage (get_or stages c.in-Some.i d) (c.in_ok-recall.ensures stages d trail))
            (same-told c.recall.new.stage c.args.stage.now (sym c.eq.ensures ∙ c.if-eq.true));
      };
    }

pub twin-at-requires-clause-told : goal.twin-at-requires-clause-told
twin-at-requires-clause-told c =
    let trail = c.requires.trail.1 in
    let told = (c.loop-at.invariant c.requires.trail.0 trail).is c.in-Some.i c.args.stage.now c.in-Some.is in
    let whole = trail.whole in
    omega (arith, told.0)

pub twin-at-requires-clause-within : goal.twin-at-requires-clause-within
twin-at-requires-clause-within c =
    let trail = c.requires.trail.1 in
    let told = (c.loop-at.invariant c.requires.trail.0 trail).is c.in-Some.i c.args.stage.now c.in-Some.is in
    let size = trail.size in
    omega (arith, told.1)

pub loop-at-preserved : goal.loop-at-preserved
loop-at-preserved c stages trail =
    let s : Stage = c.args.stage.now in
    let g = c.args.ground.now in
    let t = c.args.self.now in
    let among = c.loop-at.invariant stages trail in
    let told = among.is c.in-Some.i s c.in-Some.is in
    let link = link-here g t stages c.in-Some.i trail told.0 told.1 in
    let other : IsAt stages c.in-Some.i s → ⊥ =
    λ at. true≢false (sym (same-test c.recall.new.stage s (same-trans c.recall.new.stage (get_or stages c.in-Some.i s) s (c.in_ok-recall.ensures stages s trail) (at.same s))) ∙ (sym c.eq.ensures ∙ c.if-eq.false)) in
    subst (IsAmong stages t.begun s) (sym c.twin-at.ensures)
    (among-twin g t stages s c.in-Some.i _ trail link told.0 told.1 other (subst (IsAmong stages t.begun s) c.in-Some.is among))

pub loop-at-smaller : goal.loop-at-smaller
loop-at-smaller c =
    let s : Stage = c.args.stage.now in
    let stages : List Stage = c.requires.trail.0 in
    let trail = c.requires.trail.1 in
    let told = (c.loop-at.invariant stages trail).is c.in-Some.i s c.in-Some.is in
    let link = link-here c.args.ground.now c.args.self.now stages c.in-Some.i trail told.0 told.1 in
    subst (λ (o : Option ℕ). bound_of o < bound_of c.loop-at.at) (sym c.twin-at.ensures) (bound-falls stages s c.args.self.now.begun c.in-Some.i _ c.loop-at.at _ c.in-Some.is (link.twin s told.0))

pub returns-clause-none : goal.returns-clause-none
returns-clause-none c is stages trail twin =
    among-left stages c.args.self.now.begun c.args.stage.now c.loop-at.at c.in_default.not-Some (c.loop-at.invariant stages trail) twin
