-- What a call's receipt rests on.
use Rattle.std.proofs.Common.{◌≡◌, ℕ, ◌⊎◌, ◌==◌, Bool, true, false, cond, List, [], ◌∷◌, length, refl, arith, inl, inr}
use Rattle.at_stepper.proofs.Prelude.{decided_or_refused, cases_Bool, leb-false, is_shared, is_single, BookTerms, account_of, is_owner, TargetPair, Call, Pay, Read, Transfer, Done, Full, NotOwner, Short, place, Knowledge, round, At, Receipt, CallMade, PaymentMade, PassTerms, IsDecidedByBalance, has_used_up, cut_behind, IsSnapshot}
use Rattle.std.specs.Prelude.{is_some, nat_le, position}

-- an account that has an owner has one alone, or two or more
single-owner : (owners : List ℕ) (process : ℕ) → is_some (position (λ owner. owner == process) owners) ≡ true → nat_le 2 (length owners) ≡ false
    → (length owners == 1) ≡ true
single-owner [] process owner other = absurd (cc owner)
single-owner (x ∷ []) process owner other = refl
single-owner (x ∷ (y ∷ ys)) process owner other = absurd (omega (arith, leb-false 2 (length (x ∷ (y ∷ ys))) other))

-- what was decided by a balance is a payment of an owner
owner-reply : (owner used low : Bool) (r : Receipt) → r.reply ≡ cond owner (cond used Full (cond low Short Done)) NotOwner → IsDecidedByBalance r → owner ≡ true
owner-reply true used low r is decided = refl
owner-reply false used low r is (inl moved) = absurd (cc (is, moved))
owner-reply false used low r is (inr low_balance) = absurd (cc (is, low_balance))

single-PaymentMade : (b : BookTerms) (before after : PassTerms) (source : ℕ) (targets : List TargetPair) (call : Call) (r : Receipt)
    → PaymentMade b before after source targets call r → IsDecidedByBalance r → is_shared (account_of b source) ≡ false → is_single (account_of b source) ≡ true
single-PaymentMade b before after source targets call r made decided other =
    single-owner (account_of b source).owners before.knows.first
    (owner-reply (is_owner b before.knows.first source) (has_used_up b before source) _ r made.reply decided) other

-- a receipt rests on a snapshot that its call has made, or it stands in a round, or nowhere
abbrev pub HasNoCut : At → Type 0
HasNoCut at = ((round : ℕ) × (place : ℕ) × (at ≡ At.Round round place)) ⊎ (at ≡ At.Previous)

abbrev pub RestsOnSnapshot : BookTerms → Knowledge → Knowledge → At → Type 0
RestsOnSnapshot b before after at = IsSnapshot b before after (cut_behind after at) ⊎ HasNoCut at

snapshot-PaymentMade : (b : BookTerms) (before after : PassTerms) (source : ℕ) (targets : List TargetPair) (call : Call) (r : Receipt)
    → PaymentMade b before after source targets call r → RestsOnSnapshot b before.knows after.knows r.at
snapshot-PaymentMade b before after source targets call r made =
    elim (decided_or_refused (is_owner b before.knows.first source) (has_used_up b before source) _ r made.reply) as
    (λ _. RestsOnSnapshot b before.knows after.knows r.at) [
      | inl refused ↦ inr (inr (made.refused_at refused))
      | inr decided ↦
          elim (cases_Bool (is_shared (account_of b source))) as (λ _. RestsOnSnapshot b before.knows after.knows r.at) [
            | inl shared ↦ let paid = (made.in_round decided shared).in_round in inr (inl (paid.round, paid.place, paid.at))
            | inr other ↦
                inl (made.alone decided (single-PaymentMade b before after source targets call r made decided other)).snapshot
          ]
    ]

pub snapshot-CallMade : (b : BookTerms) (before after : PassTerms) (call : Call) (r : Receipt) → CallMade b before after call r
    → RestsOnSnapshot b before.knows after.knows r.at
snapshot-CallMade b before after (Transfer from to amount) r made =
    snapshot-PaymentMade b before after from ((to, amount) ∷ []) (Transfer from to amount) r made
snapshot-CallMade b before after (Read account) r made = inl made.snapshot
snapshot-CallMade b before after (Pay from targets) r made = snapshot-PaymentMade b before after from targets (Pay from targets) r made
