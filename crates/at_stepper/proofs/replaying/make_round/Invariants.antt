use Rattle.at_stepper.proofs.Prelude.{range_with_len, IsSameRun, TurnBy}
use Rattle.at_stepper.proofs.ReplayLaws.{HasGoneOn}
use Rattle.at_stepper.proofs.replaying.make_round.Given as goal

-- the turns of the processes so far are made. None was where they were idle, and else fewer are left
abbrev pub invariant-loop-process : goal.invariant-loop-process
invariant-loop-process l = record {
  turned : TurnBy (range_with_len 0 l.process) l.fn.turns.items l.fn.stepper l.turns.items l.stepper;
  goes_on : HasGoneOn l.process l.fn.stepper l.stepper;
  same : IsSameRun l.fn.stepper l.stepper;
}
