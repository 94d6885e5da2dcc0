use Rattle.std.proofs.Common.{◌≡◌, ◌+◌, ◌∷◌, [], List, length, ap, ◌∙◌, sym, subst, arith, get_or, refl}
use Rattle.at_orders.proofs.Prelude.{length-append, HaveSameNumbers, Stage}
use Rattle.at_orders.proofs.Trails.{held-more}
use Rattle.at_orders.proofs.trail.Trail.hold.Goals as goal

pub loop-i-preserved : goal.loop-i-preserved
loop-i-preserved c =
    let x : Stage = c.in_ok-copy.field-0 in
    let items = c.in_ok-push.ensures.items in
    let more : length c.push.new.self.items ≡ length c.loop-i.held.items + 1 = ap (length {A = Stage}) items ∙ length-append c.loop-i.held.items (x ∷ []) in
    let at = c.loop-i.invariant.size in
    record {
      size = omega (arith, more, at);
      held = λ stages trail k s d within.
          subst (λ (xs : List Stage). HaveSameNumbers (get_or xs k s) (get_or stages (c.args.self.now.begun + k) d)) (sym items)
          (held-more stages c.args.self.now.begun c.loop-i.i c.loop-i.held.items x c.recall.new.stage at c.in_ok-copy.ensures
          (λ e. c.in_ok-recall.ensures stages e trail) (c.loop-i.invariant.held stages trail) k s d (omega (arith, more)));
    }

pub returns : goal.returns
returns c stages trail = record {
  size = let at = c.loop-i.invariant.size in let past = c.loop-i-test.false in let end = c.loop-i.auto.i-end in let len = c.len-i-end.ensures in let size = trail.size in let within = trail.within in omega arith;
  held = c.loop-i.invariant.held stages trail;
  links = c.new.ensures.items;
  begun_at = refl;
}
