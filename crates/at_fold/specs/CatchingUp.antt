-- Totals that catch up with counts, record by record.
use Rattle.std.specs.Prelude.{◌≡◌, ℕ, ◌<◌, List, slice_index}
use Rattle.at_fold.specs.Prelude.{Covers, BookTerms, Publication}
use Rattle.at_fold.specs.HasCounted.{HasCounted, HasRecords}
use Rattle.at_fold.specs.Sums.{TotalSums}

-- on the way to counts of records that are in the list, by process and then by rising number: of the processes before p all that they
-- count is counted, and of those after p no more than at the start
pub record IsCatchingUp (b : BookTerms) (seen : List Publication) (counts start : List ℕ) (t : TotalSums) (p : ℕ) : Type 0 where
  pub counted : HasCounted t b seen
  pub records : HasRecords b seen counts
  pub more : Covers counts t.upto
  pub done : (q : ℕ) → q < p → slice_index t.upto q ≡ slice_index counts q
  pub kept : (q : ℕ) → p < q → slice_index t.upto q ≡ slice_index start q
