-- Slots of owners that rise.
use Rattle.std.proofs.Common.{◌≡◌, ℕ, ◌+◌, ◌<◌, ◌≤◌, zero, suc, eqb, List, [], ◌∷◌, length, get_or, Some, arith}
use Rattle.at_ledger.proofs.Prelude.{lt-ltb, nat_tests, All-get_or, position_or_len_is, AccountTerms, IsRisingFrom, slot_in, BookTerms, IsAccount, IsBegun, account_of}

-- each owner is at least `least`
IsRisingFrom-least : (least : ℕ) (owners : List ℕ) (i : ℕ) → IsRisingFrom least owners → i < length owners → least ≤ get_or owners i 0
unfolding IsRisingFrom
IsRisingFrom-least least [] i rising within = absurd (omega arith)
IsRisingFrom-least least (owner ∷ owners) zero rising within = rising.0
IsRisingFrom-least least (owner ∷ owners) (suc i) rising within =
    omega (arith, rising.0, IsRisingFrom-least (owner + 1) owners i rising.1 (omega arith))

-- an earlier owner is below a later one
IsRisingFrom-below : (least : ℕ) (owners : List ℕ) (k i : ℕ) → IsRisingFrom least owners → k < i → i < length owners
    → get_or owners k 0 < get_or owners i 0
unfolding IsRisingFrom
IsRisingFrom-below least [] k i rising earlier within = absurd (omega arith)
IsRisingFrom-below least (owner ∷ owners) k zero rising earlier within = absurd (omega arith)
IsRisingFrom-below least (owner ∷ owners) zero (suc i) rising earlier within =
    omega (arith, IsRisingFrom-least (owner + 1) owners i rising.1 (omega arith))
IsRisingFrom-below least (owner ∷ owners) (suc k) (suc i) rising earlier within =
    IsRisingFrom-below (owner + 1) owners k i rising.1 (omega arith) (omega arith)

-- no two owners are the same, so each has one slot
pub slot_in-get_or : (t : AccountTerms) (slot : ℕ) → IsRisingFrom 0 t.owners → slot < length t.owners
    → slot_in t (get_or t.owners slot 0) ≡ Some slot
slot_in-get_or t slot rising within =
    let process = get_or t.owners slot 0 in
    let first = position_or_len_is (λ owner. eqb owner process) t.owners slot 0 (omega arith)
    (λ k earlier. let below = IsRisingFrom-below 0 t.owners k slot rising earlier within in grind (arith, nat_tests))
    (λ _. grind (arith, nat_tests)) in
    rw (first, lt-ltb slot (length t.owners) within)

pub slot_in-owner : (b : BookTerms) (account slot : ℕ) → IsBegun b → account < length b.accounts
    → slot < length (account_of b account).owners
    → slot_in (account_of b account) (get_or (account_of b account).owners slot 0) ≡ Some slot
slot_in-owner b account slot begun known within =
    let terms = account_of b account in
    let rising : IsRisingFrom 0 terms.owners = (All-get_or (IsAccount b.processes) b.accounts account _ known begun.accounts).rising in
    slot_in-get_or terms slot rising within
