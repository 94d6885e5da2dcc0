-- Calls one after another, one more, and what their costs add up to.
use Rattle.std.proofs.Common.{◌≡◌, ◌+◌, ◌++◌, suc, List, [], ◌∷◌, length, refl, sym, ap, subst, arith, Option, None, Some}
use Rattle.std.specs.Prelude.{IfSome, sum_by}
use Rattle.at_workers.proofs.Prelude.{is_some, sum_by-cons, BoardTerms, Receipt, counted-CallMade, PassTerms, others_counted, CostTerms, TakeCalls, TakesCall, costs_with}

module _ (ledger : BoardTerms) where
  -- one more call
  pub TakeCalls-more : (before middle after : PassTerms) (receipts : List Receipt) (costs : List CostTerms) (r : Receipt) (c : CostTerms)
      → TakeCalls ledger before receipts costs middle → TakesCall ledger middle after r c
      → TakeCalls ledger before (receipts ++ r ∷ []) (costs ++ c ∷ []) after
  unfolding TakeCalls
  TakeCalls-more before middle after [] [] r c same takes = (after, subst (λ p. TakesCall ledger p after r c) (sym same) takes, refl)
  TakeCalls-more before middle after [] (d ∷ costs) r c taken takes = absurd taken
  TakeCalls-more before middle after (q ∷ receipts) [] r c taken takes = absurd taken
  TakeCalls-more before middle after (q ∷ receipts) (d ∷ costs) r c (next, first, rest) takes =
      (next, first, TakeCalls-more next middle after receipts costs r c rest takes)

  -- none takes the pass nowhere
  pub TakeCalls-none : (pass : PassTerms) (receipts : List Receipt) → receipts ≡ [] → TakeCalls ledger pass receipts [] pass
  unfolding TakeCalls
  TakeCalls-none pass [] none = refl
  TakeCalls-none pass (r ∷ receipts) none = absurd (cc none)

-- what the costs of calls add up to: with what the pass had made and counted before them, what it has made and counted since
pub record AddUp (before after : PassTerms) (costs : List CostTerms) : Type 0 where
  pub steps : before.steps + sum_by (λ (c : CostTerms). c.steps) costs ≡ after.steps
  pub exchanges : before.exchanges + sum_by (λ (c : CostTerms). c.exchanges) costs ≡ after.exchanges
  pub new_records : others_counted before + sum_by (λ (c : CostTerms). c.new_records) costs ≡ others_counted after

AddUp-none : (pass : PassTerms) → AddUp pass pass []
AddUp-none pass = record { steps = omega arith; exchanges = omega arith; new_records = omega arith }

AddUp-first : (ledger : BoardTerms) (before middle after : PassTerms) (r : Receipt) (c : CostTerms) (costs : List CostTerms)
    → TakesCall ledger before middle r c → AddUp middle after costs → AddUp before after (c ∷ costs)
AddUp-first ledger before middle after r c costs takes rest =
    let called = takes.called in
    let counted = counted-CallMade ledger.book before middle r.call r called.made in
    let is = takes.cost_is in
    record {
      steps = omega (arith, sum_by-cons (λ (d : CostTerms). d.steps) c costs, ap (λ (d : CostTerms). d.steps) is, rest.steps, called.within.risen);
      exchanges = omega (
        arith,
        sum_by-cons (λ (d : CostTerms). d.exchanges) c costs,
        ap (λ (d : CostTerms). d.exchanges) is,
        rest.exchanges,
        called.within.decided,
      );
      new_records = omega (arith, sum_by-cons (λ (d : CostTerms). d.new_records) c costs, ap (λ (d : CostTerms). d.new_records) is, rest.new_records, counted);
    }

pub AddUp-TakeCalls : (ledger : BoardTerms) (before after : PassTerms) (receipts : List Receipt) (costs : List CostTerms)
    → TakeCalls ledger before receipts costs after → AddUp before after costs
unfolding TakeCalls
AddUp-TakeCalls ledger before after [] [] same = subst (λ p. AddUp before p []) same (AddUp-none before)
AddUp-TakeCalls ledger before after [] (c ∷ costs) taken = absurd taken
AddUp-TakeCalls ledger before after (r ∷ receipts) [] taken = absurd taken
AddUp-TakeCalls ledger before after (r ∷ receipts) (c ∷ costs) (middle, takes, rest) =
    AddUp-first ledger before middle after r c costs takes (AddUp-TakeCalls ledger middle after receipts costs rest)

-- there is a cost for each receipt
pub length-TakeCalls : (ledger : BoardTerms) (before after : PassTerms) (receipts : List Receipt) (costs : List CostTerms)
    → TakeCalls ledger before receipts costs after → length costs ≡ length receipts
unfolding TakeCalls
length-TakeCalls ledger before after [] [] taken = refl
length-TakeCalls ledger before after [] (c ∷ costs) taken = absurd taken
length-TakeCalls ledger before after (r ∷ receipts) [] taken = absurd taken
length-TakeCalls ledger before after (r ∷ receipts) (c ∷ costs) (middle, takes, rest) =
    ap suc (length-TakeCalls ledger middle after receipts costs rest)

-- the costs that are noted, where any are
abbrev pub AreNoted : Option (List CostTerms) → List CostTerms → Type 0
AreNoted noted costs = IfSome noted (λ list. list ≡ costs)

pub AreNoted-none : (noted : Option (List CostTerms)) (receipts : List Receipt) → receipts ≡ [] → IfSome noted (λ list. length list ≡ length receipts)
    → AreNoted noted []
AreNoted-none None receipts none same = tt
AreNoted-none (Some []) receipts none same = refl
AreNoted-none (Some (c ∷ costs)) receipts none same = absurd (omega (arith, same, ap length none))

pub AreNoted-more : (noted : Option (List CostTerms)) (costs : List CostTerms) (cost : CostTerms) → AreNoted noted costs
    → AreNoted (costs_with cost noted) (costs ++ cost ∷ [])
AreNoted-more None costs cost are = tt
AreNoted-more (Some list) costs cost are = ap (λ (l : List CostTerms). l ++ cost ∷ []) are

pub is_some-costs_with : (cost : CostTerms) (costs : Option (List CostTerms)) → is_some (costs_with cost costs) ≡ is_some costs
is_some-costs_with cost None = refl
is_some-costs_with cost (Some list) = refl
