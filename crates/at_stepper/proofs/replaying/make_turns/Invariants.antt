use Rattle.std.proofs.Common.{List, take}
use Rattle.at_stepper.proofs.Prelude.{BookTerms, Call, HasTurnedBy, IsSameRun, IsNewStepper}
use Rattle.at_stepper.proofs.replaying.make_turns.Given as goal

-- the turns by the schedule so far are made
abbrev pub invariant-loop-process : goal.invariant-loop-process
invariant-loop-process l = record {
  turned : (b : BookTerms) (files : List (List Call)) → IsNewStepper b files l.fn.stepper
      → HasTurnedBy b files (take l.process-index l.schedule) l.turns.items l.stepper;
  same : IsSameRun l.fn.stepper l.stepper;
}
