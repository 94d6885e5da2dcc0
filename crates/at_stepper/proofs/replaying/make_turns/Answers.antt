use Rattle.std.proofs.Common.{◌≡◌, ℕ, [], List, arith, subst, sym, take}
use Rattle.at_stepper.proofs.Prelude.{take_all, take_more, HasTurnedBy, TurnMade}
use Rattle.at_stepper.proofs.ReplayLaws.{HasTurnedBy-none, IsSameRun-refl, IsSameRun-trans, TurnAll-over}
use Rattle.at_stepper.proofs.replaying.make_turns.Goals as goal

pub loop-process-init : goal.loop-process-init
loop-process-init c =
    let before = c.args.stepper.now in
    record {
      turned = λ b files new.
          subst (λ (turns : List TurnMade). HasTurnedBy b files [] turns before) (sym c.requires.none) (HasTurnedBy-none b files before new);
      same = IsSameRun-refl before;
    }

pub loop-process-preserved : goal.loop-process-preserved
loop-process-preserved c =
    let schedule = c.args.schedule.now in
    let number = c.loop-process.process-index in
    let before = c.args.stepper.now in
    let after = c.turn_unless_idle.new.stepper in
    let kept = c.loop-process.invariant in
    let told = c.in_ok-turn_unless_idle.ensures in
    record {
      turned = λ b files new.
          subst (λ (entries : List ℕ). HasTurnedBy b files entries c.turn_unless_idle.new.turns.items after)
          (sym (take_more schedule number 0 c.loop-process-test.true)) (told.turned b files (take number schedule) (kept.turned b files new));
      same = IsSameRun-trans before c.loop-process.stepper after kept.same told.same;
    }

pub returns-clause-turned : goal.returns-clause-turned
returns-clause-turned c =
    let schedule = c.args.schedule.now in
    let before = c.args.stepper.now in
    let between = c.loop-process.stepper in
    let was = c.loop-process.turns.items in
    let all : take c.loop-process.process-index schedule ≡ schedule = take_all c.loop-process.process-index schedule (omega (arith, c.loop-process-test.false)) in
    let told = c.in_ok-run_out.ensures in
    TurnAll-over c.args.processes schedule was c.run_out.new.turns.items before between c.run_out.new.stepper c.requires.count
    (λ b files new. subst (λ (entries : List ℕ). HasTurnedBy b files entries was between) all (c.loop-process.invariant.turned b files new)) told.turned told.over
