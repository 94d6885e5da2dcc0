use Rattle.std.proofs.Common.{ℕ, ◌∙◌, ◌++◌, ◌<◌, ◌∷◌, [], List, arith, slice_index, subst, sym}
use Rattle.at_stepper.proofs.Prelude.{eqb-false, eqb-true, TurnBy, calls_left, TurnMade}
use Rattle.at_stepper.proofs.ReplayLaws.{TurnBy-idle, TurnBy-turned}
use Rattle.at_stepper.proofs.replaying.turn_unless_idle.Goals as goal

pub returns-then-idle-clause-turned : goal.returns-then-idle-clause-turned
returns-then-idle-clause-turned c =
    TurnBy-idle c.args.turns.now.items c.args.stepper.now c.args.process (eqb-true _ 0 (sym c.idle.ensures ∙ c.if-idle.true))

pub returns-clause-turned : goal.returns-clause-turned
returns-clause-turned c =
    let p = c.args.process in
    let before = c.args.stepper.now in
    let after = c.make_turn.new.self in
    let turns = c.args.turns.now.items in
    let apart = eqb-false (slice_index (calls_left before) p) 0 (sym c.idle.ensures ∙ c.if-idle.false) in
    let busy : 0 < slice_index (calls_left before) p = omega (arith, apart) in
    let t : TurnMade = c.make_turn.result in
    let told = c.make_turn.ensures in
    subst (λ (all : List TurnMade). TurnBy (p ∷ []) turns before all after) {x = turns ++ t ∷ []} {y = c.push.new.self.items}
    (sym c.in_ok-push.ensures.items)
    (subst (λ (q : ℕ). TurnBy (q ∷ []) turns before (turns ++ t ∷ []) after) told.process_is
    (TurnBy-turned turns before after t told.turned (subst (λ (q : ℕ). 0 < slice_index (calls_left before) q) (sym told.process_is) busy) told.turns told.made))
