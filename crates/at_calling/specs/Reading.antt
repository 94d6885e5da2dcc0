-- Reads that are made one load a turn.
use Rattle.std.specs.Prelude.{◌≡◌, ℕ, ◌+◌, ◌-◌, ◌*◌, ◌≤◌, List, length, slice_index, sum}
use Rattle.at_calling.specs.Prelude.{BookTerms, Read, Balance, balance_after, prefix_of, own_part, Knowledge, RECORD_WORDS, TotalSums, IsPlaced, Receipt, StandsAfterCut, StandsAtCut, cut_behind, newly_counted, IsSnapshot, snapshot_steps, LookingTerms}

-- a read by its account and its look
pub record ReadingTerms : Type 0 where
  pub account : ℕ
  pub looking : LookingTerms

-- how many records are seen now that weren't counted before, without those that the process itself has published since
abbrev pub newly_seen : Knowledge → Knowledge → List ℕ → ℕ
newly_seen before after counted = length after.seen - sum counted - ((own_part after).published - (own_part before).published)

-- how many records of others totals have counted so far that they hadn't before: what they count more, without what the process itself has
-- published since
abbrev pub counted_so_far : Knowledge → Knowledge → List ℕ → List ℕ → ℕ
counted_so_far before after was now = sum now - sum was - ((own_part after).published - (own_part before).published)

-- no fewer records of others are seen: what the process itself has published since is among what is seen more
abbrev pub SeesOthersStill : Knowledge → Knowledge → Type 0
SeesOthersStill before after = length before.seen + (own_part after).published ≤ length after.seen + (own_part before).published

-- and no fewer are counted
abbrev pub CountsOthersStill : Knowledge → Knowledge → TotalSums → TotalSums → Type 0
CountsOthersStill before after was now = sum was.upto + (own_part after).published ≤ sum now.upto + (own_part before).published

-- what a call on single accounts leaves of totals: they have counted all that its process has published, and what it hasn't published
-- itself and they hadn't counted before took a load for each word, beside the snapshot and so many steps more
pub record LeavesTotals (b : BookTerms) (before after : Knowledge) (was now : TotalSums) (more_steps turns : ℕ) : Type 0 where
  pub more : CountsOthersStill before after was now
  pub own_counted : slice_index now.upto after.first ≡ (own_part after).published
  pub few : turns ≤ snapshot_steps b.processes + more_steps + RECORD_WORDS * newly_counted before after was now

-- the receipt of a read whose first turn came after what was known before: the balance at the cut of a snapshot, at which it stands
pub record IsReadOf (b : BookTerms) (before after : Knowledge) (account : ℕ) (r : Receipt) : Type 0 where
  pub call : r.call ≡ Read account
  pub reply : r.reply ≡ Balance (balance_after b (prefix_of (cut_behind after r.at) after.seen) account)
  pub placed : (earlier : List Receipt) → IsPlaced b before.first after.seen earlier r
  pub after_cut : StandsAfterCut after r
  pub snapshot : IsSnapshot b before after (cut_behind after r.at)
  pub at_cut : StandsAtCut b before after r.at
