-- What the turns of a schedule leave of a run.
use Rattle.std.specs.Prelude.{◌≡◌, ℕ, ◌+◌, ◌++◌, List, [], length, slice_index, slice_index_or}
use Rattle.at_stepper.specs.Prelude.{BookTerms, Call}
use Rattle.at_stepper.specs.InTurns.{IsMadeAs, RunsTo}
use Rattle.at_stepper.specs.Schedules.{AreTurnsBy, AreTurnsOf, answered_by, rounds_of_turns}
use Rattle.at_stepper.specs.Stepping.{IsNewStepper, StepperTerms, TurnsOne, calls_left, files_of}
use Rattle.at_stepper.specs.declared.replaying.TurnMade.{TurnMade}
use Rattle.at_stepper.specs.declared.turned.Turned.{Turned}

-- the run is of the same ledger, files and callers
pub record IsSameRun (before after : StepperTerms) : Type 0 where
  pub ledger : after.ledger ≡ before.ledger
  pub files : files_of after ≡ files_of before
  pub count : length after.callers ≡ length before.callers

-- a process has made a turn, and this says what it was
pub record MakesTurn (process : ℕ) (before after : StepperTerms) (t : TurnMade) : Type 0 where
  pub process_is : t.process ≡ process
  pub turned : Turned
  pub turns : TurnsOne t.process turned before after
  pub made : IsMadeAs turned before after t turns

-- so far the turns by these entries are made, they lead from a new run to this one, and to each process those calls are left that no turn of
-- it has answered
pub record HasTurnedBy (b : BookTerms) (files : List (List Call)) (entries : List ℕ) (turns : List TurnMade) (s : StepperTerms) : Type 0 where
  pub made : AreTurnsBy files entries turns
  pub runs : RunsTo b files turns s
  pub left : (p : ℕ) → answered_by p turns + slice_index (calls_left s) p ≡ length (slice_index_or files p [])

-- the turns by these entries are made, whatever turns were made before
abbrev pub TurnBy : List ℕ → List TurnMade → StepperTerms → List TurnMade → StepperTerms → Type 0
TurnBy entries was before turns after = (b : BookTerms) (files : List (List Call)) (earlier : List ℕ) → HasTurnedBy b files earlier was before
    → HasTurnedBy b files (earlier ++ entries) turns after

-- and so are the turns by some rounds of all processes
pub record TurnInRounds (n : ℕ) (was : List TurnMade) (before : StepperTerms) (turns : List TurnMade) (after : StepperTerms) : Type 0 where
  pub times : ℕ
  pub turned : TurnBy (rounds_of_turns n times) was before turns after

-- from a new run all its turns are made: those of the schedule, and then rounds of all processes until all are idle
abbrev pub TurnAll : List ℕ → StepperTerms → List TurnMade → StepperTerms → Type 0
TurnAll schedule before turns after = (b : BookTerms) (files : List (List Call)) → IsNewStepper b files before
    → RunsTo b files turns after × AreTurnsOf files schedule turns
