-- Lists of receipts that account for all that a process has in a list of publications.
use Rattle.std.specs.Prelude.{◌≡◌, ℕ, ◌+◌, ◌-◌, ◌*◌, ◌<◌, Bool, ◌==◌, List, [], ◌∷◌, length, take, if◌then◌else◌}
use Rattle.at_log.specs.Prelude.{IsNonDecreasing, first_account, BookTerms, Call, Publication, is_round, place, named, owns_of, HasSlot}
use Rattle.at_log.specs.declared.receipt.At.{At}
use Rattle.at_log.specs.declared.receipt.At.TheVariants.{Cut, Own, Round, Previous}
use Rattle.at_log.specs.declared.receipt.Receipt.{Receipt}
use Rattle.at_log.specs.Placed.{IsPlaced}
use Rattle.at_log.specs.Receipts.{asks_in, is_success, owns_in, receipt_at}

-- where the publication of a number of a process stands
unfoldable pub own_position : ℕ → ℕ → List Publication → ℕ
own_position process number [] = 0
own_position process number (x ∷ xs) =
    if x.process == process then (if number == 0 then 0 else own_position process (number - 1) xs + 1)
    else own_position process number xs + 1

-- where the first record of a round stands
unfoldable pub round_position : ℕ → ℕ → List Publication → ℕ
round_position account round [] = 0
round_position account round (x ∷ xs) = if is_round account round x.entry then 0 else round_position account round xs + 1

-- where a receipt stands in the order of the calls: twice its place, and one more where it moved. The place is that of
-- its cut, of its own record, of the first record of its round where it moved, and else of the round's decision. A
-- receipt without a place stands with the one before it
abbrev pub key_at : ℕ → List Publication → ℕ → Call → Bool → At → ℕ
key_at process list previous call moved (Cut view) = 2 * place view
key_at process list previous call moved (Own number) = 2 * own_position process number list + 1
key_at process list previous call moved (Round round place) =
    if moved then 2 * round_position (first_account call) round list + 1 else 2 * place
key_at process list previous call moved Previous = previous

-- the key of a receipt in the order of the calls (`key_at`)
abbrev pub key_of : ℕ → List Publication → ℕ → Receipt → ℕ
key_of process list previous r = key_at process list previous r.call (is_success r.reply) r.at

-- the keys of receipts, after one of this key
unfoldable pub keys_from : ℕ → List Publication → ℕ → List Receipt → List ℕ
keys_from process list previous [] = []
keys_from process list previous (r ∷ rs) =
    key_of process list previous r ∷ keys_from process list (key_of process list previous r) rs

-- the keys of a process's receipts
abbrev pub keys_of : ℕ → List Publication → List Receipt → List ℕ
keys_of process list receipts = keys_from process list 0 receipts

-- each receipt is placed after the earlier ones, their keys never fall, and each own record of the process and each
-- round for it is that of one of them
pub record Told (b : BookTerms) (process : ℕ) (list : List Publication) (receipts : List Receipt) : Type 0 where
  pub placed : (i : ℕ) → i < length receipts → IsPlaced b process list (take i receipts) (receipt_at receipts i)
  pub keys : IsNonDecreasing (keys_of process list receipts)
  pub owns : owns_of process list ≡ owns_in receipts
  pub asks : (account slot : ℕ) → HasSlot b process account slot → named account slot list ≡ asks_in account receipts
