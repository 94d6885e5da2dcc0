use Rattle.at_stepper.proofs.ReplayLaws.{IsSameRun-refl, IsSameRun-trans, TurnInRounds-more, TurnInRounds-none}
use Rattle.at_stepper.proofs.replaying.run_out.Goals as goal

pub loop-stepper-init : goal.loop-stepper-init
loop-stepper-init c = record {
  turned = TurnInRounds-none c.args.processes c.args.turns.now.items c.args.stepper.now;
  same = IsSameRun-refl c.args.stepper.now;
}

pub loop-stepper-preserved : goal.loop-stepper-preserved
loop-stepper-preserved c =
    let before = c.args.stepper.now in
    let between = c.loop-stepper.stepper in
    let after = c.make_round.new.stepper in
    let kept = c.loop-stepper.invariant in
    record {
      turned = TurnInRounds-more c.args.processes c.args.turns.now.items c.loop-stepper.turns.items c.make_round.new.turns.items before between after
          kept.turned c.in_ok-make_round.ensures.turned;
      same = IsSameRun-trans before between after kept.same c.make_round.ensures.same;
    }
