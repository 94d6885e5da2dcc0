-- What the type of a snapshot in the making keeps of its fields, which no caller sees.
use Rattle.std.specs.Prelude.{◌≡◌, ◌↔◌, ℕ, ◌+◌, ◌-◌, ◌<◌, ◌⊎◌, List, slice_index, Option, Some, None, IfSome, IsSome}
use Rattle.at_machines.specs.Prelude.{BookTerms, publication_at, publications_of, Publication, Knowledge, IsKept, SeatTerms, Collects, Verdict, Lent, Repeated, Undecided, ScanTerms, collects_after, HasLoaded, HasCollected, IsSnapshot, IsSnapping}
use Rattle.at_machines.specs.Collecting.{starting_collecting}
use Rattle.at_machines.specs.Loading.{starting_loading}
use Rattle.at_machines.specs.Snapping.{MakesLoad, MayFollow, left_of, next_of}
use Rattle.at_machines.specs.declared.stage.Stage.{Stage}
use Rattle.at_machines.specs.declared.stage.Stage.TheVariants.{Borrow, Collect, Ended}

-- the scan whose turns were the whole collects so far
abbrev pub scan_of : Knowledge → Knowledge → Option Collects → ScanTerms
scan_of start mark collects = record { start = start; mark = mark; collects = collects }

-- the counts are a snapshot, made by loads of lengths alone, and few of each
pub record IsSnapped (b : BookTerms) (before after : Knowledge) (counts : List ℕ) : Type 0 where
  pub snapshot : IsSnapshot b before after counts
  pub loads : HasLoaded b before after
  pub collects : HasCollected b before after (b.processes + 1)

-- since the start nothing was loaded yet, or lengths alone were
abbrev pub HasLoadedSoFar : BookTerms → Knowledge → Knowledge → Type 0
HasLoadedSoFar b start mark = (mark ≡ start) ⊎ HasLoaded b start mark

-- of a stage: a collect is the next of a scan of so many turns; a view that is loaded serves
abbrev pub IsStageSo : BookTerms → Knowledge → Knowledge → Option Collects → ℕ → Stage → Type 0
IsStageSo b start mark collects collected (Collect c) =
    (c.mark ≡ mark) × (c.loaded < b.processes) × HasLoadedSoFar b start mark
    × ((steps : ℕ) × IsSnapping b start (scan_of start c.start collects) c.start 0 steps collected)
IsStageSo b start mark collects collected (Borrow l) =
    (l.knows ≡ mark) × (l.loaded < b.processes) × IsSnapped b start mark (publication_at (publications_of l.process mark.seen) l.number).view
IsStageSo b start mark collects collected Ended = Unit {0}

pub record IsSnappingSo (start mark : Knowledge) (collects : Option Collects) (collected : ℕ) (stage : Stage) : Type 0 where
  pub kept : IsKept start
  pub book : mark.book ≡ start.book
  pub stage_so : IsStageSo start.book start mark collects collected stage

-- what a whole collect leads to, by what it says beside those before it: its counts are answered, or the view that is lent comes next,
-- or the next collect does, and this one is kept
abbrev pub LeadsTo : Knowledge → List ℕ → Option Collects → Verdict → Option Collects → Stage → Option (List ℕ) → Type 0
LeadsTo v now collects Repeated after stage counts = (stage ≡ Ended) × (counts ≡ Some now)
LeadsTo v now collects (Lent p) after stage counts = (stage ≡ Borrow (starting_loading v p (slice_index now p - 1))) × (counts ≡ None)
LeadsTo v now collects Undecided after stage counts =
    (stage ≡ Collect (starting_collecting v)) × (counts ≡ None) × (after ≡ Some (collects_after collects now))

-- a turn has made the next load of a stage, so many collects being whole, and leaves these collects, so many, and this stage
pub record TurnsStage (b : BookTerms) (seen : List Publication) (start : Knowledge) (before after : SeatTerms) (collected : ℕ) (stage : Stage) (collects : Option Collects)
    (whole : ℕ) (next : Stage) (counts : Option (List ℕ)) : Type 0 where
  pub so : IsSnappingSo start after.knows collects whole next
  pub load : MakesLoad b seen (next_of stage) before after
  pub loads : HasLoaded b start after.knows
  pub follows : MayFollow b.processes (next_of stage) (next_of next)
  pub left : left_of b.processes whole next < left_of b.processes collected stage
  pub ends : IsSome counts ↔ (left_of b.processes whole next ≡ 0)
  pub snapped : IfSome counts (IsSnapped b start after.knows)
