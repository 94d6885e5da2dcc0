-- What a caller gives back to its ledger.
use Rattle.std.specs.Prelude.{◌≡◌, ◌^◌, ◌<◌, ℕ, List, length, All}
use Rattle.at_c.specs.Prelude.{IsCallOn, BoardTerms, calls_of, Receipt, IsPassOf, PassTerms, Stands, past_receipts}

-- so few receipts, of calls that name accounts that are there
pub record AreReceipts (accounts : ℕ) (receipts : List Receipt) : Type 0 where
  pub few : length receipts < 2 ^ 32
  pub known : All (IsCallOn accounts) (calls_of receipts)

-- the pass is of the ledger, and these are the receipts of all calls that were made with it
pub record IsGivenBack (ledger : BoardTerms) (pass : PassTerms) (receipts : List Receipt) : Type 0 where
  pub of_ledger : IsPassOf pass ledger
  pub stands : Stands pass receipts
  pub past : past_receipts pass ≡ receipts
  pub are : AreReceipts (length ledger.book.accounts) receipts
