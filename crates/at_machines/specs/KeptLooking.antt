-- What the type of a look in the making keeps of its fields, which no caller sees.
use Rattle.std.specs.Prelude.{◌≡◌, ℕ, ◌+◌, ◌<◌, ◌≤◌, sum}
use Rattle.at_machines.specs.Prelude.{IsKept, Knowledge, HasCounted, TotalSums, snapshot_steps}
use Rattle.at_machines.specs.CatchingUp.{CatchingUpTerms, loads_left}
use Rattle.at_machines.specs.KeptSnapshots.{IsSnapped}
use Rattle.at_machines.specs.Looking.{IsWithin}
use Rattle.at_machines.specs.Snapping.{SnappingTerms}
use Rattle.at_machines.specs.declared.look_stage.LookStage.{LookStage}
use Rattle.at_machines.specs.declared.look_stage.LookStage.TheVariants.{CatchUp, Snap}

-- the snapshot goes on, and nothing was counted since the start
pub record IsSnappingFirst (start mark : Knowledge) (was totals : TotalSums) (turns : ℕ) (s : SnappingTerms) : Type 0 where
  pub start_is : s.start ≡ start
  pub mark_is : s.mark ≡ mark
  pub totals_are : totals ≡ was
  pub left : 0 < s.left
  pub few : turns + s.left ≤ snapshot_steps start.book.processes

-- the totals are on the way to the counts of the snapshot, or have counted them
pub record IsCatchingUpThen (start mark : Knowledge) (was totals : TotalSums) (turns : ℕ) (c : CatchingUpTerms) : Type 0 where
  pub knows_is : c.knows ≡ mark
  pub totals_are : c.totals ≡ totals
  pub snapped : IsSnapped start.book start mark c.counts
  pub more : sum was.upto ≤ sum c.counts
  pub grown : sum was.upto ≤ sum totals.upto
  pub few : IsWithin start.book.processes was (sum c.counts) (turns + loads_left c)

abbrev pub IsLookStageSo : Knowledge → Knowledge → TotalSums → TotalSums → ℕ → LookStage → Type 0
IsLookStageSo start mark was totals turns (Snap s) = IsSnappingFirst start mark was totals turns s
IsLookStageSo start mark was totals turns (CatchUp c) = IsCatchingUpThen start mark was totals turns c

pub record IsLookingSo (start mark : Knowledge) (was totals : TotalSums) (turns : ℕ) (stage : LookStage) : Type 0 where
  pub kept : IsKept start
  pub book : mark.book ≡ start.book
  pub counted : HasCounted was start.book start.seen
  pub stage_so : IsLookStageSo start mark was totals turns stage
