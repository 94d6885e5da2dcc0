-- What a call has done before it answers.
use Rattle.std.specs.Prelude.{◌≡◌, ℕ, ◌≤◌, List, sum}
use Rattle.at_payments.specs.Prelude.{BookTerms, Knowledge, StaysCounted, TotalSums, HasLoaded, IsSnapshot}

-- it has taken a snapshot, by loads of lengths alone, and its totals have counted just what the cut counts
pub record HasLooked (b : BookTerms) (before after : Knowledge) (was now : TotalSums) (cut : List ℕ) : Type 0 where
  pub snapshot : IsSnapshot b before after cut
  pub loads : HasLoaded b before after
  pub counted : StaysCounted now b after.seen
  pub upto : now.upto ≡ cut
  pub more : sum was.upto ≤ sum cut
