-- What receipts say together.
use Rattle.std.specs.Prelude.{ℕ, Bool, true, false, ◌&&◌, ◌==◌, List, [], ◌∷◌, count_by, map, slice_index_or}
use Rattle.at_log.specs.Prelude.{Call, Transfer, Read, Pay, Reply, Done, Short, NotOwner, Full, Balance}
use Rattle.at_log.specs.declared.receipt.At.{At}
use Rattle.at_log.specs.declared.receipt.At.TheVariants.{Cut, Own, Round, Previous}
use Rattle.at_log.specs.declared.receipt.Receipt.{Receipt}

-- whether the call is a pay-out from this account
abbrev pub is_payout_from : ℕ → Call → Bool
is_payout_from account (Transfer from to amount) = from == account
is_payout_from account (Read asked) = false
is_payout_from account (Pay from targets) = from == account

-- whether the call stands at its own record
abbrev pub is_at_own : At → Bool
is_at_own (Cut view) = false
is_at_own (Own number) = true
is_at_own (Round round place) = false
is_at_own Previous = false

-- whether it stands in a round
abbrev pub is_at_round : At → Bool
is_at_round (Cut view) = false
is_at_round (Own number) = false
is_at_round (Round round place) = true
is_at_round Previous = false

-- whether the call moved its amounts
abbrev pub is_success : Reply → Bool
is_success Done = true
is_success Short = false
is_success NotOwner = false
is_success Full = false
is_success (Balance amount) = false

-- the calls that receipts are of
abbrev pub calls_of : List Receipt → List Call
calls_of receipts = map (λ r. r.call) receipts

-- how many successes from single accounts there are
abbrev pub owns_in : List Receipt → ℕ
owns_in receipts = count_by (λ r. is_at_own r.at) receipts

-- how many requests on an account there are
abbrev pub asks_in : ℕ → List Receipt → ℕ
asks_in account receipts = count_by (λ r. is_at_round r.at && is_payout_from account r.call) receipts

-- the receipt of a number, from 0
abbrev pub receipt_at : List Receipt → ℕ → Receipt
receipt_at receipts i = slice_index_or receipts i (record { call = Read 0; reply = Full; at = Previous })
