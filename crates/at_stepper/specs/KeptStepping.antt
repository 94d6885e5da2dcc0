-- What the type of a run keeps of its fields, which no caller sees.
use Rattle.std.specs.Prelude.{◌≡◌, ℕ, ◌^◌, ◌<◌, List, All, None, length, map, slice_index_or}
use Rattle.at_stepper.specs.Prelude.{BookTerms, Call, ArePublishedBy, IsPrefix, count_of, Publication, IsOverviewOf, BoardTerms, IsOf, calls_of, contents_of, Receipt, AreAccountedFor, HasAllLogs, HasMemoryFor, IsPassOf, PassTerms, Stands, past_receipts, seat_of}
use Rattle.at_stepper.specs.Callers.{CallerTerms}
use Rattle.at_stepper.specs.Stepping.{IsOver, StepperTerms, files_of}
use Rattle.at_stepper.specs.declared.caller.Start.{Start}
use Rattle.at_stepper.specs.declared.progress.EndedRun.{EndedRun}
use Rattle.at_stepper.specs.declared.progress.ClosedRun.{ClosedRun}
use Rattle.at_stepper.specs.declared.progress.Progress.{Progress}
use Rattle.at_stepper.specs.declared.progress.Progress.TheVariants.{Closed, Ended, Running}
use Rattle.at_stepper.specs.declared.run.Run.{Run}

-- the passes that callers start with
abbrev pub passes_in : List Start → List PassTerms
passes_in starts = map (λ (start : Start). start.pass) starts

-- a run as callers see it
abbrev pub stepper_terms : Run → StepperTerms
stepper_terms run = record { ledger = run.ledger; callers = run.callers.items; published = run.overview.seen }

-- the run that is made, or was made
abbrev pub run_in : Progress → Run
run_in (Running run) = run
run_in (Ended ended) = ended.run.value
run_in (Closed over) = over.run.value

-- the caller is the process's on the ledger
pub record IsCallerOn (ledger : BoardTerms) (process : ℕ) (caller : CallerTerms) : Type 0 where
  pub seat : IsOf caller.seat ledger
  pub pass : IsPassOf caller.pass ledger
  pub process_is : caller.pass.knows.first ≡ process
  pub seat_process : caller.seat.knows.first ≡ process
  pub stands : Stands caller.pass caller.receipts
  pub between : caller.stage ≡ None → seat_of caller.pass ≡ caller.seat

-- one for each process, in order
pub record AreCallersOn (ledger : BoardTerms) (callers : List CallerTerms) : Type 0 where
  pub count : length callers ≡ ledger.book.processes
  pub each : (p : ℕ) (d : CallerTerms) → p < length callers → IsCallerOn ledger p (slice_index_or callers p d)

-- a list begins with all that each caller's seat has seen
abbrev pub AreAllIn : List CallerTerms → List Publication → Type 0
AreAllIn callers published = (p : ℕ) (d : CallerTerms) → p < length callers → IsPrefix (slice_index_or callers p d).seat.knows.seen published

-- and it has of each process just the records that its own seat has seen
abbrev pub HaveJustTheirOwn : List CallerTerms → List Publication → Type 0
HaveJustTheirOwn callers published = (p : ℕ) (d : CallerTerms) → p < length callers →
    count_of p published ≡ count_of p (slice_index_or callers p d).seat.knows.seen

-- what is published: all that the callers' seats have seen, and no more
pub record IsAllPublished (b : BookTerms) (callers : List CallerTerms) (published : List Publication) : Type 0 where
  pub seen : AreAllIn callers published
  pub own : HaveJustTheirOwn callers published
  pub known : ArePublishedBy b.processes published

-- the callers of a run, and its overview of their seats
pub record IsRunSo (run : Run) : Type 0 where
  pub callers : AreCallersOn run.ledger run.callers.items
  pub overview : IsOverviewOf run.overview run.ledger
  pub published : IsAllPublished run.ledger.book run.callers.items run.overview.seen

-- all calls of the run are answered by these receipts, which are the callers'
pub record IsAnsweredBy (run : Run) (receipts : List (List Receipt)) : Type 0 where
  pub over : IsOver (stepper_terms run)
  pub count : length run.callers.items ≡ run.ledger.book.processes
  pub published : IsAllPublished run.ledger.book run.callers.items run.overview.seen
  pub between : (p : ℕ) (d : CallerTerms) → p < length run.callers.items →
      seat_of (slice_index_or run.callers.items p d).pass ≡ (slice_index_or run.callers.items p d).seat
  pub receipts_are : receipts ≡ map (λ caller. caller.receipts) (stepper_terms run).callers
  pub made : map calls_of receipts ≡ files_of (stepper_terms run)
  pub few : All (λ list. length list < 2 ^ 32) receipts

-- the passes of callers
abbrev pub caller_passes : List CallerTerms → List PassTerms
caller_passes callers = map (λ caller. caller.pass) callers

-- what is kept of a run whose passes and receipts are put together
pub record IsEndedSo (ended : EndedRun) : Type 0 where
  pub answered : IsAnsweredBy ended.run.value (contents_of ended.receipts.items)
  pub passes_are : ended.passes.items ≡ caller_passes ended.run.value.callers.items
  pub accounted : AreAccountedFor ended.ledger ended.passes.items (contents_of ended.receipts.items)
  pub ledger_is : ended.ledger ≡ ended.run.value.ledger

-- and of one whose ledger is closed
pub record IsClosedSo (over : ClosedRun) : Type 0 where
  pub answered : IsAnsweredBy over.run.value over.closed.closing.receipts
  pub book_is : over.closed.book ≡ over.run.value.ledger.book
  pub logs : HasAllLogs (caller_passes over.run.value.callers.items) over.closed

abbrev pub IsProgressSo : Progress → Type 0
IsProgressSo (Running run) = IsRunSo run
IsProgressSo (Ended ended) = IsEndedSo ended
IsProgressSo (Closed over) = IsClosedSo over

-- all calls of the caller are answered: its receipts are of them, and stand with its pass
pub record HasAnsweredAll (caller : CallerTerms) : Type 0 where
  pub between : seat_of caller.pass ≡ caller.seat
  pub stands : Stands caller.pass caller.receipts
  pub past : past_receipts caller.pass ≡ caller.receipts
  pub made : calls_of caller.receipts ≡ caller.calls
  pub few : length caller.receipts < 2 ^ 32

-- the passes and the receipts of callers that have answered all their calls, in order
pub record AreSplit (callers : List CallerTerms) (passes : List PassTerms) (receipts : List (List Receipt)) : Type 0 where
  pub passes_are : passes ≡ caller_passes callers
  pub receipts_are : receipts ≡ map (λ caller. caller.receipts) callers
  pub all : All HasAnsweredAll callers

-- there is a start for each file, with room for a receipt of each call
pub record AreStartsFor (files : List (List Call)) (starts : List Start) : Type 0 where
  pub count : length starts ≡ length files
  pub room : (p : ℕ) (file : List Call) (d : Start) → p < length files →
      HasMemoryFor (slice_index_or starts p d).receipts (length (slice_index_or files p file))
