-- The walk over the owners of an account.
use Rattle.std.proofs.Common.{◌≡◌, ℕ, ◌+◌, ◌<◌, ◌≤◌, leb, ltb, List, [], ◌∷◌, length, get_or, drop, Some, None, ap, ◌∙◌, arith}
use Rattle.at_ledger.proofs.Prelude.{at_drop_more, at_drop_all, option_or, All, All-nil, All-cons, leb-false, ltb-false, IsRisingFrom, IsAccount, owner_fault, owners_fault, terms_with, BookError, OwnerOutOfRange, OwnersNotRising, TooManyOwners, most_owners}
use Rattle.at_ledger.proofs.Faults.{choice-none, option_or-none}

-- an owner without a fault: the walk goes on after it
pub owners_fault-drop_good : (processes account count least : ℕ) (owners : List ℕ) (i : ℕ) → i < length owners
    → owner_fault processes account count least (get_or owners i 0) ≡ None
    → owners_fault processes account count least (drop i owners)
    ≡ owners_fault processes account (count + 1) (get_or owners i 0 + 1) (drop (i + 1) owners)
unfolding owners_fault
owners_fault-drop_good processes account count least owners i within good =
    let rest = owners_fault processes account (count + 1) (get_or owners i 0 + 1) (drop (i + 1) owners) in
    at_drop_more (owners_fault processes account count least) owners i 0 within ∙ ap (λ f. option_or f rest) good

-- an owner with a fault ends the walk
pub owners_fault-drop_bad : (processes account count least : ℕ) (owners : List ℕ) (i : ℕ) (fault : BookError)
    → i < length owners
    → owner_fault processes account count least (get_or owners i 0) ≡ Some fault
    → owners_fault processes account count least (drop i owners) ≡ Some fault
unfolding owners_fault
owners_fault-drop_bad processes account count least owners i fault within bad =
    let rest = owners_fault processes account (count + 1) (get_or owners i 0 + 1) (drop (i + 1) owners) in
    at_drop_more (owners_fault processes account count least) owners i 0 within ∙ ap (λ f. option_or f rest) bad

-- after the last owner there is no fault
pub owners_fault-drop_all : (processes account count least : ℕ) (owners : List ℕ) (i : ℕ) → length owners ≤ i
    → owners_fault processes account count least (drop i owners) ≡ None
unfolding owners_fault
owners_fault-drop_all processes account count least owners i all =
    at_drop_all (owners_fault processes account count least) owners i all

-- an owner without a fault is a process, high enough, and not the ninth
owner_fault-none : (processes account count least owner : ℕ)
    → owner_fault processes account count least owner ≡ None
    → (owner < processes) × (least ≤ owner) × (count < most_owners)
owner_fault-none processes account count least owner good =
    let known = choice-none (leb processes owner) (OwnerOutOfRange account) _ good in
    let rising = choice-none (ltb owner least) (OwnersNotRising account) _ known.1 in
    let few = choice-none (leb most_owners count) (TooManyOwners account) _ rising.1 in
    (leb-false _ _ known.0, ltb-false _ _ rising.0, leb-false _ _ few.0)

-- owners that follow `count` others
record AreOwners (processes count least : ℕ) (owners : List ℕ) : Type 0 where
  known : All (λ owner. owner < processes) owners
  rising : IsRisingFrom least owners
  few : count + length owners ≤ most_owners

AreOwners-from_none : (processes account count least : ℕ) (owners : List ℕ) → count ≤ most_owners
    → owners_fault processes account count least owners ≡ None → AreOwners processes count least owners
unfolding owners_fault IsRisingFrom
AreOwners-from_none processes account count least [] few good =
    record { known = All-nil _; rising = tt; few = omega arith }
AreOwners-from_none processes account count least (owner ∷ owners) few good =
    let both = option_or-none (owner_fault processes account count least owner) _ good in
    let first = owner_fault-none processes account count least owner both.0 in
    let rest = AreOwners-from_none processes account (count + 1) (owner + 1) owners (omega (arith, first.2)) both.1 in
    record {
      known = All-cons (λ o. o < processes) owner owners first.0 rest.known;
      rising = (first.1, rest.rising);
      few = omega (arith, rest.few);
    }

-- owners without a fault are those of an account
pub IsAccount-from_none : (processes account opening : ℕ) (owners : List ℕ)
    → owners_fault processes account 0 0 owners ≡ None → IsAccount processes (terms_with opening owners)
IsAccount-from_none processes account opening owners good =
    let checked = AreOwners-from_none processes account 0 0 owners (omega arith) good in
    record { known = checked.known; rising = checked.rising; few = omega (arith, checked.few) }
