use Rattle.std.proofs.Common.{◌≡◌, ◌∷◌, [], List, ℕ, arith, subst, sym}
use Rattle.at_stepper.proofs.Prelude.{range_with_len, TurnBy}
use Rattle.at_stepper.proofs.ReplayLaws.{HasGoneOn, HasGoneOn-all, HasGoneOn-more, IsSameRun-trans, TurnBy-then, range_push}
use Rattle.at_stepper.proofs.replaying.make_round.Goals as goal

pub loop-process-preserved : goal.loop-process-preserved
loop-process-preserved c =
    let p = c.loop-process.process in
    let was = c.args.turns.now.items in
    let middle = c.loop-process.turns.items in
    let turns = c.turn_unless_idle.new.turns.items in
    let before = c.args.stepper.now in
    let between = c.loop-process.stepper in
    let after = c.turn_unless_idle.new.stepper in
    let kept = c.loop-process.invariant in
    let told = c.turn_unless_idle.ensures in
    record {
      turned = subst (λ (entries : List ℕ). TurnBy entries was before turns after) (sym (range_push p))
          (TurnBy-then (range_with_len 0 p) (p ∷ []) was middle turns before between after kept.turned c.in_ok-turn_unless_idle.ensures.turned);
      goes_on = HasGoneOn-more p before between after kept.goes_on told.idle told.left;
      same = IsSameRun-trans before between after kept.same told.same;
    }

pub returns-clause-turned : goal.returns-clause-turned
returns-clause-turned c =
    let all : c.loop-process.process ≡ c.args.processes = omega (arith, c.loop-process-test.false, c.loop-process.auto.process-end) in
    subst (λ n. TurnBy (range_with_len 0 n) c.args.turns.now.items c.args.stepper.now c.loop-process.turns.items c.loop-process.stepper) all
    c.loop-process.invariant.turned

pub returns-clause-left : goal.returns-clause-left
returns-clause-left c =
    let all : c.loop-process.process ≡ c.args.processes = omega (arith, c.loop-process-test.false, c.loop-process.auto.process-end) in
    let before = c.args.stepper.now in
    let after = c.loop-process.stepper in
    HasGoneOn-all c.args.processes before after c.requires.count
    (subst (λ n. HasGoneOn n before after) all c.loop-process.invariant.goes_on)
