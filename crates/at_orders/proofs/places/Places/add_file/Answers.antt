use Rattle.at_orders.proofs.Prelude.{common_steps, take_all, ArePlaces, HasFirstPlace, HasPlace, IsCallOn}
use Rattle.std.proofs.Common.{◌≡◌, ℕ, Option, List, length, take, All, sym, subst, arith}
use Rattle.at_orders.proofs.Placing.{calls-more, first-known}
use Rattle.at_orders.proofs.places.Places.add_file.Goals as goal

pub add-requires-clause-account : goal.add-requires-clause-account
add-requires-clause-account c =
    let accounts : ℕ = length c.loop-call.self.of.items in
    let known = c.requires.calls c.loop-call.call-index c.call-item.result c.loop-call-test.true in
    first-known accounts c.call-item.result c.first_account.result c.first_account.ensures
    (subst (λ (n : ℕ). IsCallOn n c.call-item.result) (sym c.loop-call.invariant.places.size) (subst (IsCallOn (length c.args.self.now.of.items)) (sym c.call-item.is) known))

pub loop-call-preserved : goal.loop-call-preserved
loop-call-preserved c =
    let new : List (Option ℕ) = c.add.new.self.of.items in
    record {
      places = subst (λ (n : ℕ). ArePlaces n c.add.new.self.named.items new) c.loop-call.invariant.places.size c.in_ok-add.ensures.places;
      keeps = λ account place is. c.in_ok-add.ensures.keeps account place (c.loop-call.invariant.keeps account place is);
      named = calls-more c.loop-call.self.of.items new c.args.file.now c.loop-call.call-index c.call-item.result c.loop-call-test.true c.in_ok-add.ensures.keeps
          c.loop-call.invariant.named c.call-item.is (subst (HasPlace new) c.first_account.ensures c.in_ok-add.ensures.named);
    }

pub returns-clause-named : goal.returns-clause-named
returns-clause-named c =
    let whole : take c.loop-call.call-index c.args.file.now ≡ c.args.file.now = take_all c.loop-call.call-index c.args.file.now (let past = c.loop-call-test.false in omega arith) in
    subst (All (HasFirstPlace c.loop-call.self.of.items)) whole c.loop-call.invariant.named

pub loop-call-init : goal.loop-call-init
loop-call-init c = grind (arith, common_steps)

pub add-requires-clause-places : goal.add-requires-clause-places
add-requires-clause-places c = grind (arith, common_steps)
