-- What a proposal is answered.
use Rattle.std.specs.Prelude.{◌≡◌, ℕ}
use Rattle.at_requests.specs.Prelude.{word_of, Decision, BookTerms, Decides, Knowledge}

-- the exchange was made with the cell of the round, and the round is decided by the answer
pub record DecidesAs (b : BookTerms) (before after : Knowledge) (a round : ℕ) (d answer : Decision) : Type 0 where
  pub decides : Decides b before after a round d (word_of answer)
  pub answered : decides.decision ≡ answer
