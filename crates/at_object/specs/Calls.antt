-- What a call of the object leaves of its pass, and what it may take.
use Rattle.std.specs.Prelude.{◌≡◌, ◌≢◌, ℕ, ◌+◌, ◌*◌, ◌≤◌, ◌++◌, Bool, true, false, List, [], ◌∷◌, length}
use Rattle.at_object.specs.Prelude.{is_shared, is_single, slots_of, BookTerms, account_of, TargetPair, first_account, Call, Balance, balance_after, prefix_of, IsHistory, IsPrefix, raised, RECORD_WORDS, IsPlaced, At, Receipt, look_at, decides_made, decides_on, StandsAfter, cut_behind, IsSnapshot, snapshot_steps}
use Rattle.at_object.specs.Paid.{HasLoadedFresh, PaysAlone, PaysInRound}
use Rattle.at_object.specs.Passes.{PassTerms, Stands, asked_by, counted_anew, others_counted, sent_by}
use Rattle.at_object.specs.Payments.{IsDecidedByBalance, IsRefused, payment_steps, reply_of}

-- what a payment leaves of its pass
pub record PaymentMade (book : BookTerms) (before after : PassTerms) (source : ℕ) (targets : List TargetPair) (call : Call) (receipt : Receipt) : Type 0 where
  pub call_is : receipt.call ≡ call
  pub reply : receipt.reply ≡ reply_of book before after source targets receipt
  pub placed : (earlier : List Receipt) → Stands before earlier → IsPlaced book before.knows.first after.knows.seen earlier receipt
  pub stands : (earlier : List Receipt) → Stands before earlier → Stands after (earlier ++ receipt ∷ [])
  pub after_seen : IsDecidedByBalance receipt → StandsAfter (length before.knows.seen) after.knows receipt
  pub looked : IsDecidedByBalance receipt → length before.knows.seen ≤ look_at after.knows.first after.knows.seen receipt.at
  pub loads : IsDecidedByBalance receipt → HasLoadedFresh book before after
  pub alone : IsDecidedByBalance receipt → is_single (account_of book source) ≡ true → PaysAlone book before.knows after.knows source targets call receipt
  pub in_round : IsDecidedByBalance receipt → is_shared (account_of book source) ≡ true → PaysInRound book before.knows after.knows source call receipt
  pub begins : IsPrefix before.knows.seen after.knows.seen
  pub process_is : after.knows.first ≡ before.knows.first
  pub refused : IsRefused receipt → after ≡ record before { calls = after.calls; past = after.past }
  pub refused_at : IsRefused receipt → receipt.at ≡ At.Previous
  pub asked_elsewhere : (a : ℕ) → a ≢ source → asked_by after a ≡ asked_by before a
  pub counted : others_counted before ≤ others_counted after

-- what a read leaves of its pass
pub record ReadMade (book : BookTerms) (before after : PassTerms) (account : ℕ) (receipt : Receipt) : Type 0 where
  pub call_is : receipt.call ≡ Call.Read account
  pub at_cut : receipt.at ≡ At.Cut (cut_behind after.knows receipt.at)
  pub reply : receipt.reply ≡ Balance (balance_after book (prefix_of (cut_behind after.knows receipt.at) after.knows.seen) account)
  pub snapshot : IsSnapshot book before.knows after.knows (cut_behind after.knows receipt.at)
  pub placed : (earlier : List Receipt) → Stands before earlier → IsPlaced book before.knows.first after.knows.seen earlier receipt
  pub stands : (earlier : List Receipt) → Stands before earlier → Stands after (earlier ++ receipt ∷ [])
  pub after_seen : StandsAfter (length before.knows.seen) after.knows receipt
  pub looked : length before.knows.seen ≤ look_at after.knows.first after.knows.seen receipt.at
  pub begins : IsPrefix before.knows.seen after.knows.seen
  pub history : IsHistory book after.knows.seen
  pub process_is : after.knows.first ≡ before.knows.first
  pub asked : (a : ℕ) → asked_by after a ≡ asked_by before a
  pub sent : sent_by after ≡ sent_by before
  pub counted : others_counted before ≤ others_counted after

-- what a call leaves of its pass
abbrev pub CallMade : BookTerms → PassTerms → PassTerms → Call → Receipt → Type 0
CallMade b before after (Call.Transfer from to amount) r = PaymentMade b before after from ((to, amount) ∷ []) (Call.Transfer from to amount) r
CallMade b before after (Call.Read account) r = ReadMade b before after account r
CallMade b before after (Call.Pay from targets) r = PaymentMade b before after from targets (Call.Pay from targets) r

-- the most steps of a call, beside the loads of records that its totals count
abbrev pub call_steps : BookTerms → Call → ℕ
call_steps b (Call.Transfer from to amount) = payment_steps b from
call_steps b (Call.Read account) = snapshot_steps b.processes
call_steps b (Call.Pay from targets) = payment_steps b from

-- whether the call may make exchanges: it pays from a shared account
abbrev pub may_exchange : BookTerms → Call → Bool
may_exchange b (Call.Transfer from to amount) = is_shared (account_of b from)
may_exchange b (Call.Read account) = false
may_exchange b (Call.Pay from targets) = is_shared (account_of b from)

-- the pass has made few steps, and none where the call is refused; its count of them doesn't fall. Its exchanges are those that its process has decided on the account
-- that the call names first, at most one for each owner; on other accounts there are none, and none at all where the call may make none
pub record StaysWithin (b : BookTerms) (before after : PassTerms) (call : Call) (r : Receipt) : Type 0 where
  pub few : after.steps ≤ before.steps + call_steps b call + RECORD_WORDS * counted_anew before after
  pub risen : before.steps ≤ after.steps
  pub refused : IsRefused r → after.steps ≡ before.steps
  pub decided : after.exchanges ≡ raised before.exchanges (decides_made (first_account call) before.knows after.knows)
  pub none : may_exchange b call ≡ false → after.exchanges ≡ before.exchanges
  pub few_decided : decides_made (first_account call) before.knows after.knows ≤ slots_of (account_of b (first_account call))
  pub decides_elsewhere : (a : ℕ) → a ≢ first_account call → decides_on after.knows a ≡ decides_on before.knows a
