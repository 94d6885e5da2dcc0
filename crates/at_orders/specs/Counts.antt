-- How many counts of calls there are: so many stages at least.
use Rattle.std.specs.Prelude.{◌≡◌, ◌≢◌, ℕ, ◌<◌, ◌≤◌, List, length, slice_index, slice_index_or, All}
use Rattle.at_orders.specs.Prelude.{BookTerms, Call}
use Rattle.at_orders.specs.Stages.{IsStage, StageTerms}

-- stages of the orders, no two of which have the same counts of calls, before the first call of each process from this one on
pub record AreCountedApart (b : BookTerms) (files : List (List Call)) (process : ℕ) (stages : List StageTerms) : Type 0 where
  pub are : All (IsStage b files) stages
  pub apart : (i j : ℕ) (t : StageTerms) → i < j → j < length stages → (slice_index_or stages i t).made ≢ (slice_index_or stages j t).made
  pub later : All (λ t. (q : ℕ) → process ≤ q → slice_index t.made q ≡ 0) stages

-- there are so many
pub record HasStagesApart (b : BookTerms) (files : List (List Call)) (process count : ℕ) : Type 0 where
  pub stages : List StageTerms
  pub are : AreCountedApart b files process stages
  pub size : length stages ≡ count
