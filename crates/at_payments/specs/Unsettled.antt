-- The request of a helping that is decided next.
use Rattle.std.specs.Prelude.{◌≡◌, ℕ, ◌<◌, List, length, slice_index}
use Rattle.at_payments.specs.Prelude.{slots_of, BookTerms, account_of, named, Publication, IsOldestOf, OpenRequest}
use Rattle.at_payments.specs.HelpingTerms.{HelpingTerms}

-- so many requests of each slot of the account are settled in the list
pub record AreDone (b : BookTerms) (list : List Publication) (a : ℕ) (done : List ℕ) : Type 0 where
  pub sized : length done ≡ slots_of (account_of b a)
  pub settled : (slot : ℕ) → slot < slots_of (account_of b a) → slice_index done slot ≡ named a slot list

-- of the requests that were collected and aren't settled in the list, this is the oldest
pub record IsNextUnsettled (b : BookTerms) (list : List Publication) (h : HelpingTerms) (x : OpenRequest) : Type 0 where
  pub done : List ℕ
  pub are : AreDone b list h.account done
  pub oldest : IsOldestOf h.asked done x
