-- Runs by turns: which turns lead to a run, when its calls begin and end, and what its journal is.
use Rattle.std.specs.Prelude.{◌≡◌, ◌≢◌, ◌⊎◌, ℕ, ◌+◌, ◌-◌, ◌<◌, ◌≤◌, ◌==◌, ◌&&◌, ◌++◌, Bool, false, true, List, Option, None, Some, [], ◌∷◌, count_by, filter, filter_map, if◌then◌else◌, length, map, slice_index, slice_index_or, take}
use Rattle.at_stepper.specs.Prelude.{range_with_len, AreTimed, CallTimes, IsLinearizable, BookTerms, Call, Line, Reply, lines_of, publication_at, count_of, publications_of, Publication, ClosingTerms, log_published, receipts_of, Coherent, KeepsTime, look_at, journal_lines, receipt_at, At, Cut, Own, Round, Previous, length_loaded, next_step}
use Rattle.at_stepper.specs.Callers.{CallerTerms, reply_in}
use Rattle.at_stepper.specs.Schedules.{AreTurnsOf, answered_by}
use Rattle.at_stepper.specs.Stepping.{IsNewStepper, IsOver, StepperTerms, TurnsOne}
use Rattle.at_stepper.specs.declared.replaying.Replayed.{Replayed}
use Rattle.at_stepper.specs.declared.replaying.TurnMade.{TurnMade}
use Rattle.at_stepper.specs.declared.turned.Turned.{Turned}

-- a turn says what was done: its step, the reply of the call that it answered, if it did, and whether it published a record. The other caller
-- stands for one that isn't there
pub record IsMadeAs (turned : Turned) (before after : StepperTerms) (t : TurnMade) (one : TurnsOne t.process turned before after) : Type 0 where
  pub step : (other : CallerTerms) → t.step ≡ next_step before.ledger.book (one.changes.here other).stage
  pub reply : t.reply ≡ reply_in turned
  pub published : length after.published ≡ length before.published + (if t.published then 1 else 0)

-- a new run of these files leads to this one by these turns, one after another
pub data RunsTo (b : BookTerms) (files : List (List Call)) : List TurnMade → StepperTerms → Type 0 where
  starts : (s : StepperTerms) → IsNewStepper b files s → RunsTo b files [] s
  goes_on : (turns : List TurnMade) (before after : StepperTerms) (t : TurnMade) (turned : Turned) → RunsTo b files turns before
      → (one : TurnsOne t.process turned before after) → IsMadeAs turned before after t one → RunsTo b files (turns ++ t ∷ []) after

abbrev pub turn_at : List TurnMade → ℕ → TurnMade
turn_at turns m = slice_index_or turns m (record { process = 0; step = None; reply = None; published = false })

-- the turn of a number, from 0, is one of a call: it is of the call's process, after so many answers to it
abbrev pub is_turn_of : List TurnMade → ℕ → ℕ → ℕ → Bool
is_turn_of turns p i m = ((turn_at turns m).process == p) && (answered_by p (take m turns) == i)

-- all turns of a call
abbrev pub turns_of_call : List TurnMade → ℕ → ℕ → List ℕ
turns_of_call turns p i = filter (is_turn_of turns p i) (range_with_len 0 (length turns))

-- a call begins with its first turn, and ends with its last
abbrev pub times_of : List TurnMade → CallTimes
times_of turns = record {
  begun = λ p i. slice_index (turns_of_call turns p i) 0;
  ended = λ p i. slice_index (turns_of_call turns p i) (length (turns_of_call turns p i) - 1);
}

-- how many records the first turns have published
abbrev pub published_by_then : List TurnMade → ℕ → ℕ
published_by_then turns m = count_by (λ t. t.published) (take m turns)

-- the turns that publish have published this list, one record each in their order, which is of the turn's process
pub record PublishInOrder (turns : List TurnMade) (published : List Publication) : Type 0 where
  pub each : (m : ℕ) → m < length turns → (turn_at turns m).published ≡ true →
      (publication_at published (published_by_then turns m)).process ≡ (turn_at turns m).process
  pub all : published_by_then turns (length turns) ≡ length published

-- at one moment from a call's first turn to its last, when so many turns were made, just so many records were published as its look counts
pub record LooksWithin (turns : List TurnMade) (published : List Publication) (p i : ℕ) (at : At) : Type 0 where
  pub moment : ℕ
  pub begun : (times_of turns).begun p i ≤ moment
  pub ended : moment ≤ (times_of turns).ended p i + 1
  pub look : look_at p published at ≡ published_by_then turns moment

-- which length a run's turn of this number has loaded, if it has. The other caller stands for one that isn't there
unfoldable pub length_loaded_in : (b : BookTerms) (files : List (List Call)) (turns : List TurnMade) (s : StepperTerms) → RunsTo b files turns s
    → CallerTerms → ℕ → Option ℕ
length_loaded_in b files _ _ (starts s new) other m = None
length_loaded_in b files _ _ (goes_on turns before after t turned runs one made) other m =
    if m == length turns then length_loaded (one.changes.here other).stage else length_loaded_in b files turns before runs other m

-- a turn of the call has loaded a length, and no later one of its turns has. So the count has just the records of that process which the
-- turns before it have published
pub record IsLastLoad (turns : List TurnMade) (loaded : ℕ → Option ℕ) (published : List Publication) (p i q count : ℕ) : Type 0 where
  pub turn : ℕ
  pub since : (times_of turns).begun p i ≤ turn
  pub until : turn ≤ (times_of turns).ended p i
  pub process_is : (turn_at turns turn).process ≡ p
  pub loads : loaded turn ≡ Some q
  pub last : (m : ℕ) → turn < m → m < length turns → is_turn_of turns p i m ≡ true → loaded m ≢ Some q
  pub count_is : count ≡ count_of q (take (published_by_then turns turn) published)

-- each of the counts is what the call has loaded last
abbrev pub AreLoaded : List TurnMade → (ℕ → Option ℕ) → List Publication → ℕ → ℕ → List ℕ → Type 0
AreLoaded turns loaded published p i counts = (q : ℕ) → q < length counts → IsLastLoad turns loaded published p i q (slice_index counts q)

-- the counts are the view of a record that another process has published from the call's first turn to its last
pub record AreBorrowed (turns : List TurnMade) (published : List Publication) (p i : ℕ) (counts : List ℕ) : Type 0 where
  pub number : ℕ
  pub since : published_by_then turns ((times_of turns).begun p i) ≤ number
  pub until : number < published_by_then turns ((times_of turns).ended p i + 1)
  pub other : (publication_at published number).process ≢ p
  pub same : (publication_at published number).view ≡ counts

abbrev pub AreLoadedOrBorrowed : List TurnMade → (ℕ → Option ℕ) → List Publication → ℕ → ℕ → List ℕ → Type 0
AreLoadedOrBorrowed turns loaded published p i counts = AreLoaded turns loaded published p i counts ⊎ AreBorrowed turns published p i counts

-- so it is of the cut of a receipt, or of the view of its own record
abbrev pub CountsLoads : List TurnMade → (ℕ → Option ℕ) → List Publication → ℕ → ℕ → At → Type 0
CountsLoads turns loaded published p i (Cut view) = AreLoadedOrBorrowed turns loaded published p i view
CountsLoads turns loaded published p i (Own number) =
    AreLoadedOrBorrowed turns loaded published p i (publication_at (publications_of p published) number).view
CountsLoads turns loaded published p i (Round round place) = Unit {0}
CountsLoads turns loaded published p i Previous = Unit {0}

-- these turns, with what each has loaded, have made a closing of these records: they have published them in this order, each call that isn't
-- refused looks at just what was published at one of its moments, and its look counts what the call has loaded last, or is borrowed
pub record IsMadeByTurns (turns : List TurnMade) (loaded : CallerTerms → ℕ → Option ℕ) (published : List Publication) (c : ClosingTerms) : Type 0 where
  pub published_are : PublishInOrder turns published
  pub looks : (p i : ℕ) → p < length c.receipts → i < length (receipts_of c p) → (receipt_at (receipts_of c p) i).at ≢ Previous →
      LooksWithin turns published p i (receipt_at (receipts_of c p) i).at
  pub counts : (other : CallerTerms) (p i : ℕ) → p < length c.receipts → i < length (receipts_of c p) →
      CountsLoads turns (loaded other) published p i (receipt_at (receipts_of c p) i).at

-- the replies of a process's calls, in the order of the turns that answered them
abbrev pub replies_by : ℕ → List TurnMade → List Reply
replies_by p turns = filter_map (λ t. if t.process == p then t.reply else None) turns

-- the lines are the journal of a run: those of a coherent closing of its receipts and of what is published, in the order of its keys. Whatever
-- turns led to the run, they have made the closing, its calls have their times, and the lines are linearizable
pub record IsJournalOf (s : StepperTerms) (lines : List Line) : Type 0 where
  pub closing : ClosingTerms
  pub coherent : Coherent s.ledger.book closing
  pub receipts : closing.receipts ≡ map (λ caller. caller.receipts) s.callers
  pub logs : (p : ℕ) → p < length s.callers → log_published closing p ≡ publications_of p s.published
  pub in_time : KeepsTime s.published closing
  pub lines_are : lines ≡ journal_lines closing
  pub scheduled : (b : BookTerms) (files : List (List Call)) (turns : List TurnMade) (runs : RunsTo b files turns s) →
      IsMadeByTurns turns (length_loaded_in b files turns s runs) s.published closing
  pub timed : (b : BookTerms) (files : List (List Call)) (turns : List TurnMade) → RunsTo b files turns s → AreTimed closing (times_of turns)
  pub linearizable : (b : BookTerms) (files : List (List Call)) (turns : List TurnMade) → RunsTo b files turns s →
      IsLinearizable b files (times_of turns) lines

-- what was made of files by a schedule: its turns lead from a new run to one whose calls are all answered, and its lines are that run's journal.
-- The lines of a process have the replies that its turns answered
pub record IsReplayBy (b : BookTerms) (files : List (List Call)) (schedule : List ℕ) (r : Replayed) : Type 0 where
  pub run : StepperTerms
  pub runs : RunsTo b files r.turns.items run
  pub over : IsOver run
  pub turns : AreTurnsOf files schedule r.turns.items
  pub journal : IsJournalOf run r.lines.items
  pub replies : (p : ℕ) → p < length files → map (λ l. l.reply) (lines_of p r.lines.items) ≡ replies_by p r.turns.items
  pub linearizable : IsLinearizable b files (times_of r.turns.items) r.lines.items
