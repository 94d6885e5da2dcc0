-- Runs of the calls of all processes by turns.
use Rattle.std.specs.Prelude.{◌≡◌, ◌≢◌, ◌⊎◌, ℕ, ◌+◌, ◌<◌, ◌++◌, List, [], ◌∷◌, Option, Some, length, map, slice_index, slice_index_or, sum_by}
use Rattle.at_stepper.specs.Prelude.{BookTerms, Call, IsPrefix, count_of, Publication, BoardTerms, BoardStep, length_loaded, next_step, CallStage, IsNewPass}
use Rattle.at_stepper.specs.Callers.{CallerTerms, IsNewCaller, IsTurned, answers_in, calls_left_of, caller_turns_left}
use Rattle.at_stepper.specs.declared.turned.Turned.{Turned}

-- a run by its ledger, by the callers of all processes, in order, and by the records that are published on its board
pub record StepperTerms : Type 0 where
  pub ledger : BoardTerms
  pub callers : List CallerTerms
  pub published : List Publication

-- the calls of each process
abbrev pub files_of : StepperTerms → List (List Call)
files_of s = map (λ (caller : CallerTerms). caller.calls) s.callers

-- how many calls are left to each process
abbrev pub calls_left : StepperTerms → List ℕ
calls_left s = map calls_left_of s.callers

-- each process has answered all its calls
abbrev pub IsOver : StepperTerms → Type 0
IsOver s = (p : ℕ) → slice_index (calls_left s) p ≡ 0

-- the turns that are left at most, of all processes
abbrev pub all_turns_left : StepperTerms → ℕ
all_turns_left s = sum_by (caller_turns_left s.ledger.book) s.callers

-- the caller of a new pass of the ledger, with all calls of a file to make
pub record IsBegunCaller (ledger : BoardTerms) (process : ℕ) (file : List Call) (caller : CallerTerms) : Type 0 where
  pub pass : IsNewPass ledger process caller.pass
  pub is_new : IsNewCaller caller.pass file caller

-- one for each file, in order
pub record AreBegunCallers (ledger : BoardTerms) (files : List (List Call)) (callers : List CallerTerms) : Type 0 where
  pub count : length callers ≡ length files
  pub calls : map (λ (caller : CallerTerms). caller.calls) callers ≡ files
  pub each : (p : ℕ) (file : List Call) (d : CallerTerms) → p < length files →
      IsBegunCaller ledger p (slice_index_or files p file) (slice_index_or callers p d)

-- a run of files on a new ledger of the book, of which no turn was made
pub record IsNewStepper (b : BookTerms) (files : List (List Call)) (s : StepperTerms) : Type 0 where
  pub book_is : s.ledger.book ≡ b
  pub callers : AreBegunCallers s.ledger files s.callers
  pub unpublished : s.published ≡ []

-- of some callers this one has changed so, and no other
pub record ChangesOne (changes : CallerTerms → CallerTerms → Type 0) (process : ℕ) (before after : List CallerTerms) : Type 0 where
  pub count : length after ≡ length before
  pub here : (d : CallerTerms) → changes (slice_index_or before process d) (slice_index_or after process d)
  pub others : (q : ℕ) (d : CallerTerms) → q ≢ process → slice_index_or after q d ≡ slice_index_or before q d

-- a process publishes nothing in its turn, or one record
abbrev pub PublishesAtMostOne : ℕ → List Publication → List Publication → Type 0
PublishesAtMostOne process before after = (after ≡ before) ⊎ ((x : Publication) × (x.process ≡ process) × (after ≡ before ++ x ∷ []))

-- after a turn the process's seat has seen a part of what is published, with all records of its process. With a load of a length it has seen just
-- what was published before the turn
pub record SeesPublished (process : ℕ) (before after : List Publication) (caller : CallerTerms) (stage : CallStage) : Type 0 where
  pub seen : IsPrefix caller.seat.knows.seen after
  pub own : count_of process after ≡ count_of process caller.seat.knows.seen
  pub loaded : (p : ℕ) → length_loaded stage ≡ Some p → caller.seat.knows.seen ≡ before

-- the process has made a turn, and no other has. Whatever is scheduled, the turns come to an end
pub record TurnsOne (process : ℕ) (turned : Turned) (before after : StepperTerms) : Type 0 where
  pub ledger : after.ledger ≡ before.ledger
  pub changes : ChangesOne (IsTurned before.ledger.book before.published turned) process before.callers after.callers
  pub publishes : PublishesAtMostOne process before.published after.published
  pub sees : (d : CallerTerms) →
      SeesPublished process before.published after.published (slice_index_or after.callers process d) (changes.here d).stage
  pub files : files_of after ≡ files_of before
  pub left : slice_index (calls_left before) process ≡ slice_index (calls_left after) process + answers_in turned
  pub others_left : (q : ℕ) → q ≢ process → slice_index (calls_left after) q ≡ slice_index (calls_left before) q
  pub turns_left : all_turns_left after < all_turns_left before

-- whichever turn the process makes next, this is the step that it makes, if it makes one. The other caller stands for one that isn't there
abbrev pub IsNextStep : ℕ → StepperTerms → Option BoardStep → Type 0
IsNextStep process s step = (turned : Turned) (after : StepperTerms) (one : TurnsOne process turned s after) (other : CallerTerms)
    → step ≡ next_step s.ledger.book (one.changes.here other).stage
