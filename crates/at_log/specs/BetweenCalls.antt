-- A seat whose process is between two calls, and the receipts that stand with it.
use Rattle.std.specs.Prelude.{◌≡◌, ℕ, ◌<◌, true, List, length, None}
use Rattle.at_log.specs.Prelude.{BookTerms, HasSlot, count_of, is_settled, Request, asking_on, own_part, Knowledge}
use Rattle.at_log.specs.Told.{Told}
use Rattle.at_log.specs.declared.receipt.Receipt.{Receipt}
use Rattle.at_log.specs.InOrder.{AreInOrder}

-- the requests that the seat's process has announced, by account. Its slot there is the one that it has
abbrev pub own_rows : Knowledge → ℕ → ℕ → List Request
own_rows v a slot = (asking_on (own_part v) a).announced

-- the seat has seen all that its process has published, the process holds no cell, each of its requests is settled in what the
-- seat has seen, and its own records and requests are in order there
pub record IsBetweenCalls (b : BookTerms) (v : Knowledge) : Type 0 where
  pub own : count_of v.first v.seen ≡ (own_part v).published
  pub free : (own_part v).held ≡ None
  pub settled : (a slot number : ℕ) → HasSlot b v.first a slot → number < length (asking_on (own_part v) a).announced →
      is_settled a slot number v.seen ≡ true
  pub order : AreInOrder b v.first v.seen (own_rows v)

-- the seat's process is between calls, and the receipts account for all that it has in what the seat has seen
pub record StandsWith (b : BookTerms) (v : Knowledge) (receipts : List Receipt) : Type 0 where
  pub between : IsBetweenCalls b v
  pub told : Told b v.first v.seen receipts
