-- Counts of calls.
use Rattle.std.specs.Prelude.{ℕ, List, [], ◌∷◌, ◌++◌}
use Rattle.at_object.specs.Prelude.{Receipt, SeatTerms, TotalSums}
use Rattle.at_object.specs.PastCalls.{PastCall}
use Rattle.at_object.specs.Passes.{cost_of_parts, cost_since, one_more_call}

-- how many calls a process has made on the ledger of a board, and these; its seat and its totals when the last of them was counted, when
-- the pass last looked at all balances, or when it was made
pub record CallCountTerms : Type 0 where
  pub count : ℕ
  pub past : List PastCall
  pub last : SeatTerms
  pub totals : TotalSums

-- a count of calls after one more with this receipt, which began with one seat and has left the other and these totals. It counted anew
-- what these had not counted before it
abbrev pub with_one_call : SeatTerms → SeatTerms → TotalSums → Receipt → CallCountTerms → CallCountTerms
with_one_call start seat totals r calls = record {
  count = one_more_call calls.count;
  past = calls.past
      ++ record { receipt = r; cost = cost_since (cost_of_parts start calls.totals.upto) (cost_of_parts seat totals.upto) } ∷ [];
  last = seat;
  totals = totals;
}
