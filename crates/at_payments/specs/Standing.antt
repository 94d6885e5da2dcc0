-- What a call on single accounts leaves: the cut behind its receipt, its reply, and where it stands.
use Rattle.std.specs.Prelude.{◌≡◌, ℕ, ◌*◌, ◌-◌, ◌≤◌, true, List, [], nat_lt, sum, if◌then◌else◌}
use Rattle.at_payments.specs.Prelude.{is_single, BookTerms, account_of, is_owner, TargetPair, amount_of, Reply, Done, Short, balance_after, publication_at, place, publications_of, Entry, Publication, own_part, Publishes, Knowledge, TotalSums, key_of, At, Cut, Own, Round, Previous, Receipt, HasLoaded}

-- the process owns the account, and nobody else does
pub record IsOnlyOwner (b : BookTerms) (process account : ℕ) : Type 0 where
  pub single : is_single (account_of b account) ≡ true
  pub owner : is_owner b process account ≡ true

-- the cut of the snapshot behind a receipt of the seat's process: that at which it stands, or the view of its own record
abbrev pub cut_behind : Knowledge → At → List ℕ
cut_behind v (Cut view) = view
cut_behind v (Own number) = (publication_at (publications_of v.first v.seen) number).view
cut_behind v (Round round place) = []
cut_behind v Previous = []

-- the receipt stands at or after the cut behind it in the order of the calls, whatever stands before
abbrev pub StandsAfterCut : Knowledge → Receipt → Type 0
StandsAfterCut v r = (previous : ℕ) → 2 * place (cut_behind v r.at) ≤ key_of v.first v.seen previous r

-- short exactly where the balance after the prefix is below the sum of the amounts
abbrev pub payment_reply : BookTerms → List Publication → ℕ → List TargetPair → Reply
payment_reply b prefix from targets = if nat_lt (balance_after b prefix from) (amount_of targets) then Short else Done

-- the call stands at its cut, and nothing but loads of lengths has changed what the seat knows: nothing was published
pub record StandsAtCut (b : BookTerms) (before after : Knowledge) (at : At) : Type 0 where
  pub at_cut : at ≡ Cut (cut_behind after at)
  pub loads : HasLoaded b before after

-- an own record of these targets by the process, with this view
abbrev pub own_record : ℕ → List ℕ → ℕ → List TargetPair → Publication
own_record process view from targets = record { process = process; view = view; entry = Entry.Own from targets }

-- the call stands at the next record of its process. Nothing but loads of lengths has changed what the seat knows, and then that
-- one record, whose view is the call's cut, was published
pub record StandsAtOwn (b : BookTerms) (before after : Knowledge) (from : ℕ) (targets : List TargetPair) (at : At) : Type 0 where
  pub at_own : at ≡ Own (own_part before).published
  pub between : Knowledge
  pub loads : HasLoaded b before between
  pub published : Publishes b between after (own_record before.first (cut_behind after at) from targets)

-- how many records totals count after a call and did not before, without those that the call itself published
abbrev pub newly_counted : Knowledge → Knowledge → TotalSums → TotalSums → ℕ
newly_counted before after was now = sum now.upto - sum was.upto - ((own_part after).published - (own_part before).published)
