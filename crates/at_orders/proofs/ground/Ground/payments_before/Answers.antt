use Rattle.std.proofs.Common.{◌≡◌, ℕ, ◌<◌, [], List, length, get_or, ap, ◌∙◌, sym, subst, arith}
use Rattle.at_orders.proofs.Prelude.{common_steps, contents_of, get_or-contents_of, get_or_default, length-contents_of, GroundTerms}
use Rattle.at_orders.proofs.Parting.{row-known}
use Rattle.at_orders.proofs.ground.Ground.payments_before.Goals as goal

pub index-requires : goal.index-requires
index-requires c =
    let g = c.self.inside in
    let row = row-known (contents_of g.files.now) c.args.self.now.files g.parts.now g.part (contents_of g.before.items) c.args.process c.args.i
    (ap (λ (x : GroundTerms). x.files) c.self.view_is) c.self.invariant.1 c.requires.call_in in
    let inside = row.inside in
    let size = length-contents_of g.before.items in
    let known : c.args.process < length g.before.items = omega arith in
    grind (arith, common_steps)

pub index-requires-2 : goal.index-requires-2
index-requires-2 c =
    let g = c.self.inside in
    let row = row-known (contents_of g.files.now) c.args.self.now.files g.parts.now g.part (contents_of g.before.items) c.args.process c.args.i
    (ap (λ (x : GroundTerms). x.files) c.self.view_is) c.self.invariant.1 c.requires.call_in in
    let inside = row.inside in
    let size = length-contents_of g.before.items in
    let items : get_or (contents_of g.before.items) c.args.process [] ≡ c.index.result.now.items = get_or-contents_of g.before.items c.args.process c.index.result.now (omega arith) c.index.ensures in
    let known : c.args.i < length c.index.result.now.items = subst (λ (xs : List ℕ). c.args.i < length xs) items row.long in
    grind (arith, common_steps)

pub returns : goal.returns
returns c = record {
  count = λ call at.
      let g = c.self.inside in
      let row = row-known (contents_of g.files.now) c.args.self.now.files g.parts.now g.part (contents_of g.before.items) c.args.process c.args.i
      (ap (λ (x : GroundTerms). x.files) c.self.view_is) c.self.invariant.1 c.requires.call_in in
      let inside = row.inside in
      let size = length-contents_of g.before.items in
      let items : get_or (contents_of g.before.items) c.args.process [] ≡ c.index.result.now.items = get_or-contents_of g.before.items c.args.process c.index.result.now (omega arith) c.index.ensures in
      let long : c.args.i < length c.index.result.now.items = subst (λ (xs : List ℕ). c.args.i < length xs) items row.long in
      c.index-2.ensures ∙ (get_or_default c.index.result.now.items c.args.i c.index-2.result.now 0 long ∙ (ap (λ (xs : List ℕ). get_or xs c.args.i 0) (sym items) ∙ row.counted.each c.args.i call at));
}
