-- A seat between calls: all requests of its process are settled, so as many rounds name its slots.
use Rattle.std.proofs.Common.{◌≡◌, ℕ, List, length, sym, subst, ◌∙◌}
use Rattle.at_log.proofs.Prelude.{BookTerms, HasSlot, IsHistory, named, IsKept, Knowledge, asks_in, Receipt, IsBetweenCalls, StandsWith, own_rows}
use Rattle.at_log.proofs.LeftLaws.Counts.{named-all_settled}

-- as many rounds name a slot as its process has announced requests
pub named-IsBetweenCalls : (b : BookTerms) (v : Knowledge) (a slot : ℕ) → IsKept v → v.book ≡ b → IsBetweenCalls b v → HasSlot b v.first a slot
    → named a slot v.seen ≡ length (own_rows v a slot)
named-IsBetweenCalls b v a slot kept book between has =
    named-all_settled b v.seen a slot (length (own_rows v a slot)) (subst (λ t. IsHistory t v.seen) book kept.history)
    (kept.names a slot (subst (λ t. HasSlot t v.first a slot) (sym book) has)).rounds
    (λ number within. between.settled a slot number has within)

-- and as many receipts that stand with the seat ask on the account
pub asks_in-StandsWith : (b : BookTerms) (v : Knowledge) (receipts : List Receipt) (a slot : ℕ) → IsKept v → v.book ≡ b → StandsWith b v receipts
    → HasSlot b v.first a slot → asks_in a receipts ≡ length (own_rows v a slot)
asks_in-StandsWith b v receipts a slot kept book stands has =
    sym (stands.told.asks a slot has) ∙ named-IsBetweenCalls b v a slot kept book stands.between has
