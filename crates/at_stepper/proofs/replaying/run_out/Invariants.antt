use Rattle.at_stepper.proofs.Prelude.{IsSameRun, TurnInRounds, all_turns_left}
use Rattle.at_stepper.proofs.replaying.run_out.Given as goal

-- some rounds are made, and each but the last leaves fewer turns
abbrev pub invariant-loop-stepper : goal.invariant-loop-stepper
invariant-loop-stepper l = record {
  turned : TurnInRounds l.processes l.fn.turns.items l.fn.stepper l.turns.items l.stepper;
  same : IsSameRun l.fn.stepper l.stepper;
}

abbrev pub decreases-loop-stepper : goal.decreases-loop-stepper
decreases-loop-stepper l = all_turns_left l.stepper
