-- Snapshots that are made one load a turn.
use Rattle.std.specs.Prelude.{◌≡◌, ℕ, ◌+◌, ◌-◌, ◌*◌, ◌<◌, List, [], Option, None, Some}
use Rattle.at_machines.specs.Prelude.{BookTerms, IsPrefix, Publication, stepped, MayLoadWord, SeatTerms, Knowledge, BoardStep, BoardWord, RECORD_WORDS}
use Rattle.at_machines.specs.Collecting.{LoadsLengthOf}
use Rattle.at_machines.specs.Loading.{LoadingTerms, loading_after}
use Rattle.at_machines.specs.declared.stage.Stage.{Stage}
use Rattle.at_machines.specs.declared.stage.Stage.TheVariants.{Borrow, Collect, Ended}

-- what the next turn loads: the length of a process, the next word of the view that serves, or nothing
pub data NextLoad : Type 0 where
  length_of : (process : ℕ) → NextLoad
  view_word : (view : LoadingTerms) → NextLoad
  nothing : NextLoad

-- a snapshot by what its seat knew at the start and after the last turn, by what comes next, and by how many turns are left at most
pub record SnappingTerms : Type 0 where
  pub start : Knowledge
  pub mark : Knowledge
  pub next : NextLoad
  pub left : ℕ

-- just this load was made. With a length the seat has seen all that the seats of its caller had seen before; a word of a view, whose record
-- it has seen, tells it nothing new
abbrev pub MakesLoad : BookTerms → List Publication → NextLoad → SeatTerms → SeatTerms → Type 0
MakesLoad b seen (length_of p) before after = LoadsLengthOf b before.knows after.knows p × IsPrefix seen after.knows.seen
MakesLoad b seen (view_word l) before after = (after ≡ stepped before 1) × MayLoadWord b before.knows l.process l.number (RECORD_WORDS + l.loaded)
MakesLoad b seen nothing before after = ⊥

-- the process whose length that is, if it is one
abbrev pub length_in : NextLoad → Option ℕ
length_in (length_of p) = Some p
length_in (view_word l) = None
length_in nothing = None

-- and the step of that load
abbrev pub step_in : NextLoad → Option BoardStep
step_in (length_of p) = Some (BoardStep.Load (BoardWord.Length p))
step_in (view_word l) = Some (BoardStep.Load (BoardWord.Record l.process l.number (RECORD_WORDS + l.loaded)))
step_in nothing = None

-- a collect or a view begins, or nothing is left
abbrev pub BeginsAnew : NextLoad → Type 0
BeginsAnew (length_of p) = p ≡ 0
BeginsAnew (view_word l) = (l.loaded ≡ 0) × (l.words ≡ [])
BeginsAnew nothing = Unit {0}

-- what may come after a load, of n processes: the lengths come in the order of the processes, and the words by rising number, each beside those
-- before it
abbrev pub MayFollow : ℕ → NextLoad → NextLoad → Type 0
MayFollow n (length_of p) next = (p + 1 < n → next ≡ length_of (p + 1)) × (p + 1 ≡ n → BeginsAnew next)
MayFollow n (view_word l) next =
    (l.loaded + 1 < n → next ≡ view_word (loading_after l (RECORD_WORDS + l.loaded)))
    × (l.loaded + 1 ≡ n → next ≡ nothing)
MayFollow n nothing next = ⊥

-- what comes next in a stage
abbrev pub next_of : Stage → NextLoad
next_of (Collect c) = length_of c.loaded
next_of (Borrow l) = view_word l
next_of Ended = nothing

-- the loads that are left at most of n processes, after so many whole collects: of this collect, of those that may follow it up to
-- n + 1 in all, and of a view
abbrev pub left_of : ℕ → ℕ → Stage → ℕ
left_of n collected (Collect c) = (n - collected) * n + (n - c.loaded) + n
left_of n collected (Borrow l) = n - l.loaded
left_of n collected Ended = 0
