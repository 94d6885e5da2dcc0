-- A request that its owner waits for, as plain data.
use Rattle.std.specs.Prelude.{ℕ, List}
use Rattle.at_payments.specs.Prelude.{OpenRequest}

-- the account that is paid from, the request there, and the last requests of all owners as they were collected after it
pub record HelpingTerms : Type 0 where
  pub account : ℕ
  pub own : OpenRequest
  pub asked : List OpenRequest

abbrev pub helping_of : ℕ → OpenRequest → List OpenRequest → HelpingTerms
helping_of a own asked = record { account = a; own = own; asked = asked }
