-- What the payments of the crates below leave, whatever the call was: a transfer, or a pay-out to the same targets.
use Rattle.std.specs.Prelude.{◌≡◌, ℕ, ◌+◌, ◌<◌, ◌≤◌, List, length, None}
use Rattle.at_object.specs.Prelude.{BookTerms, TargetPair, Call, Done, Short, prefix_of, IsPrefix, owns_of, fresh_loads, asking_on, loads_of, own_part, Knowledge, IsPlaced, asks_in, owns_in, Receipt, AsksOnce, StandsAfter, StandsAfterSnapshot, StandsInRound, StandsAfterCut, StandsAtCut, StandsAtOwn, cut_behind, payment_reply, IsSnapshot}
use Rattle.at_object.specs.Passes.{PassTerms}

-- a payment from a single account was decided at the cut of its snapshot
pub record PaysAlone (book : BookTerms) (before after : Knowledge) (source : ℕ) (targets : List TargetPair) (call : Call) (receipt : Receipt) : Type 0 where
  pub call_is : receipt.call ≡ call
  pub reply : receipt.reply ≡ payment_reply book (prefix_of (cut_behind after receipt.at) after.seen) source targets
  pub placed : (earlier : List Receipt) → owns_in earlier ≡ owns_of before.first before.seen → IsPlaced book before.first after.seen earlier receipt
  pub after_cut : StandsAfterCut after receipt
  pub snapshot : IsSnapshot book before after (cut_behind after receipt.at)
  pub short : receipt.reply ≡ Short → StandsAtCut book before after receipt.at
  pub done : receipt.reply ≡ Done → StandsAtOwn book before after source targets receipt.at

-- a payment from a shared account was decided in a round
pub record PaysInRound (book : BookTerms) (before after : Knowledge) (source : ℕ) (call : Call) (receipt : Receipt) : Type 0 where
  pub call_is : receipt.call ≡ call
  pub in_round : StandsInRound (receipt.reply, receipt.at)
  pub placed : (earlier : List Receipt) → asks_in source earlier ≡ length (asking_on (own_part before) source).announced →
      IsPlaced book after.first after.seen earlier receipt
  pub after_start : StandsAfter (length before.seen) after receipt
  pub after_snapshot : StandsAfterSnapshot book before after source receipt
  pub asked : AsksOnce book before after source
  pub free : (own_part after).held ≡ None
  pub begins : IsPrefix before.seen after.seen
  pub process_is : after.first ≡ before.first

-- each length was loaded at least as often as a fresh snapshot needs
abbrev pub HasLoadedFresh : BookTerms → PassTerms → PassTerms → Type 0
HasLoadedFresh book before after = (p : ℕ) → p < book.processes →
    (loads_of (own_part before.knows) p).times + fresh_loads ≤ (loads_of (own_part after.knows) p).times
