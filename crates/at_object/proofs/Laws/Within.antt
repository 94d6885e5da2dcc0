-- What a call may take, from what its kind takes.
use Rattle.std.proofs.Common.{◌≡◌, ◌≢◌, ℕ, ◌+◌, ◌*◌, ◌<◌, ◌≤◌, false, List, [], ◌∷◌, zero, suc, Some, sym, ap, subst, ◌∙◌, arith, inl, inr}
use Rattle.at_object.proofs.Prelude.{is_shared, slots_of, BookTerms, account_of, AreTargetsOn, TargetPair, first_account, payout_of, Call, Transfer, Read, Pay, Balance, Full, NotOwner, raised, RECORD_WORDS, first_account-payout, Receipt, PaymentMade, StaysWithin, call_steps, may_exchange, PassTerms, counted_anew, IsRefused, payment_steps, decides_made, decides_on}

-- one target
pub AreTargetsOn-single : (accounts to amount : ℕ) → to < accounts → AreTargetsOn accounts ((to, amount) ∷ [])
AreTargetsOn-single accounts to amount known zero d inside = known
AreTargetsOn-single accounts to amount known (suc i) d inside = absurd (omega (arith, inside))

-- a payment takes what its source says
pub call_steps-payout : (b : BookTerms) (source : ℕ) (targets : List TargetPair) (call : Call) → payout_of call ≡ Some (source, targets)
    → call_steps b call ≡ payment_steps b source
call_steps-payout b source targets (Transfer from to amount) is = ap (payment_steps b) (first_account-payout source targets (Transfer from to amount) is)
call_steps-payout b source targets (Read account) is = absurd (cc is)
call_steps-payout b source targets (Pay from amounts) is = ap (payment_steps b) (first_account-payout source targets (Pay from amounts) is)

pub may_exchange-payout : (b : BookTerms) (source : ℕ) (targets : List TargetPair) (call : Call) → payout_of call ≡ Some (source, targets)
    → may_exchange b call ≡ is_shared (account_of b source)
may_exchange-payout b source targets (Transfer from to amount) is =
    ap (λ a. is_shared (account_of b a)) (first_account-payout source targets (Transfer from to amount) is)
may_exchange-payout b source targets (Read account) is = absurd (cc is)
may_exchange-payout b source targets (Pay from amounts) is =
    ap (λ a. is_shared (account_of b a)) (first_account-payout source targets (Pay from amounts) is)

-- a payment, whichever call it was
pub StaysWithin-payment : (b : BookTerms) (before after : PassTerms) (source : ℕ) (targets : List TargetPair) (call : Call) (r : Receipt)
    → payout_of call ≡ Some (source, targets) → PaymentMade b before after source targets call r
    → after.steps ≤ before.steps + payment_steps b source + RECORD_WORDS * counted_anew before after
    → before.steps ≤ after.steps
    → after.exchanges ≡ raised before.exchanges (decides_made source before.knows after.knows)
    → (is_shared (account_of b source) ≡ false → after.exchanges ≡ before.exchanges)
    → decides_made source before.knows after.knows ≤ slots_of (account_of b source)
    → ((a : ℕ) → a ≢ source → decides_on after.knows a ≡ decides_on before.knows a)
    → StaysWithin b before after call r
StaysWithin-payment b before after source targets call r payout made few risen decided none most elsewhere =
    let first : first_account call ≡ source = first_account-payout source targets call payout in
    record {
      few = omega (arith, few, call_steps-payout b source targets call payout);
      risen = risen;
      refused = λ refused. ap (λ (t : PassTerms). t.steps) (made.refused refused);
      decided = subst (λ a. after.exchanges ≡ raised before.exchanges (decides_made a before.knows after.knows)) (sym first) decided;
      none = λ no. none (sym (may_exchange-payout b source targets call payout) ∙ no);
      few_decided = subst (λ a. decides_made a before.knows after.knows ≤ slots_of (account_of b a)) (sym first) most;
      decides_elsewhere = λ a apart. elsewhere a (λ e. apart (e ∙ sym first));
    }

-- a read is not refused
pub read_or_refused : (r : Receipt) (balance : ℕ) → r.reply ≡ Balance balance → IsRefused r → ⊥
read_or_refused r balance told (inl refused) = let both : Balance balance ≡ NotOwner = sym told ∙ refused in absurd (cc both)
read_or_refused r balance told (inr refused) = let both : Balance balance ≡ Full = sym told ∙ refused in absurd (cc both)
