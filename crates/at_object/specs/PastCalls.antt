-- What calls cost, and the calls that were made with a pass.
use Rattle.std.specs.Prelude.{ℕ}
use Rattle.at_object.specs.Prelude.{Receipt}

-- steps, how many of them were exchanges, and records of others that were counted anew
pub record CostTerms : Type 0 where
  pub steps : ℕ
  pub exchanges : ℕ
  pub new_records : ℕ

-- a call that was made, by its receipt, and what it cost
pub record PastCall : Type 0 where
  pub receipt : Receipt
  pub cost : CostTerms
