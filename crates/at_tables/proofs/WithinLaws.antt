-- No call that took a pass costs more than its bounds.
use Rattle.std.proofs.Common.{◌≡◌, ℕ, ◌-◌, ◌<◌, ◌≤◌, ◌⊎◌, inl, inr, Bool, true, false, List, [], ◌∷◌, refl, sym, ap, subst, ◌∙◌, arith}
use Rattle.at_tables.proofs.Prelude.{BoardTerms, BookTerms, Call, Transfer, Read, Pay, Reply, Done, Short, NotOwner, Full, Balance, raised, Receipt, CallMade, may_exchange, PassTerms, IsRefused, CostTerms, TakeCalls, TakesCall, cost_of, HaveCosts, AreCostsWithin, IsCostWithin, is_refusal, most_exchanges, most_steps}
use Rattle.std.specs.Prelude.{slice_index_or}

refusal-cases : (reply : Reply) → is_refusal reply ≡ true → (reply ≡ NotOwner) ⊎ (reply ≡ Full)
refusal-cases Done is = absurd (cc is)
refusal-cases Short is = absurd (cc is)
refusal-cases NotOwner is = inl refl
refusal-cases Full is = inr refl
refusal-cases (Balance amount) is = absurd (cc is)

balance-not_refused : (reply : Reply) (amount : ℕ) → reply ≡ Balance amount → is_refusal reply ≡ true → ⊥
balance-not_refused reply amount is refusal = let both : true ≡ false = sym refusal ∙ ap is_refusal is in absurd (cc both)

module _ (ledger : BoardTerms) (before after : PassTerms) where
  abbrev b : BookTerms
  b = ledger.book

  -- a call that is refused makes no exchange
  exchanges-refused : (call : Call) (r : Receipt) → CallMade b before after call r → is_refusal r.reply ≡ true
      → after.exchanges ≡ before.exchanges
  exchanges-refused (Transfer from to amount) r made refusal =
      ap (λ (p : PassTerms). p.exchanges) (made.refused (refusal-cases r.reply refusal))
  exchanges-refused (Read account) r made refusal = absurd (balance-not_refused r.reply _ made.reply refusal)
  exchanges-refused (Pay from targets) r made refusal =
      ap (λ (p : PassTerms). p.exchanges) (made.refused (refusal-cases r.reply refusal))

  module _ (r : Receipt) (cost : CostTerms) (takes : TakesCall ledger before after r cost) where
    steps-takes : (x : Bool) → is_refusal r.reply ≡ x → after.steps - before.steps ≤ most_steps b r.call r.reply (cost_of before after).new_records
    steps-takes true is = rw is (omega (arith, takes.called.within.refused (refusal-cases r.reply is)))
    steps-takes false is = rw is (omega (arith, takes.called.within.few))

    exchanges-takes : (x y : Bool) → is_refusal r.reply ≡ x → may_exchange b r.call ≡ y → after.exchanges - before.exchanges ≤ most_exchanges b r.call r.reply
    exchanges-takes true y is may = rw is (omega (arith, exchanges-refused r.call r takes.called.made is))
    exchanges-takes false false is may = rw (is, may) (omega (arith, takes.called.within.none may))
    exchanges-takes false true is may = rw (is, may) (omega (arith, takes.called.within.decided, takes.called.within.few_decided))

    pub IsCostWithin-takes : IsCostWithin b r cost
    IsCostWithin-takes = subst (IsCostWithin b r) (sym takes.cost_is) (record {
      steps = steps-takes (is_refusal r.reply) refl;
      exchanges = exchanges-takes (is_refusal r.reply) (may_exchange b r.call) refl refl;
    })

pub AreCostsWithin-take : (ledger : BoardTerms) (before after : PassTerms) (receipts : List Receipt) (costs : List CostTerms)
    → TakeCalls ledger before receipts costs after → AreCostsWithin ledger.book receipts costs
unfolding TakeCalls AreCostsWithin
AreCostsWithin-take ledger before after [] [] taken = tt
AreCostsWithin-take ledger before after [] (c ∷ costs) taken = absurd taken
AreCostsWithin-take ledger before after (r ∷ receipts) [] taken = absurd taken
AreCostsWithin-take ledger before after (r ∷ receipts) (c ∷ costs) (middle, takes, rest) =
    (IsCostWithin-takes ledger before middle r c takes, AreCostsWithin-take ledger middle after receipts costs rest)

-- so it is of every process of the book
pub AreCostsWithin-HaveCosts : (b : BookTerms) (receipts : List (List Receipt)) (costs : List (List CostTerms)) → HaveCosts b receipts costs
    → (p : ℕ) → p < b.processes → AreCostsWithin b (slice_index_or receipts p []) (slice_index_or costs p [])
AreCostsWithin-HaveCosts b receipts costs has p known =
    let taken = has.taken p known in
    let list = slice_index_or receipts p [] in
    let noted = slice_index_or costs p [] in
    subst (λ t. AreCostsWithin t list noted) taken.3 (AreCostsWithin-take taken.0 taken.1 taken.2 list noted taken.4)
