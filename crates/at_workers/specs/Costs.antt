-- What calls cost, and the way that they take a pass.
use Rattle.std.specs.Prelude.{◌≡◌, ◌++◌, List, [], ◌∷◌, Option, sum_by}
use Rattle.at_workers.specs.Prelude.{option_map, Call, BoardTerms, Receipt, CallMade, StaysWithin, IsPassOf, PassTerms, CostTerms, cost_of, past_call}

-- the costs after one more call, where they are noted
abbrev pub costs_with : CostTerms → Option (List CostTerms) → Option (List CostTerms)
costs_with cost costs = option_map (λ list. list ++ cost ∷ []) costs

-- a call of the pass was made on the ledger, and answered with this receipt. It is the last among the calls of the pass
pub record IsCalled (ledger : BoardTerms) (before after : PassTerms) (call : Call) (r : Receipt) : Type 0 where
  pub made : CallMade ledger.book before after call r
  pub within : StaysWithin ledger.book before after call r
  pub pass : IsPassOf after ledger
  pub past : after.past ≡ before.past ++ past_call before after r ∷ []

-- a call with this receipt and this cost took the ledger's pass from one to the other
pub record TakesCall (ledger : BoardTerms) (before after : PassTerms) (r : Receipt) (cost : CostTerms) : Type 0 where
  pub called : IsCalled ledger before after r.call r
  pub cost_is : cost ≡ cost_of before after

-- calls with these receipts and these costs, one after another, took it so
unfoldable pub TakeCalls : BoardTerms → PassTerms → List Receipt → List CostTerms → PassTerms → Type 0
TakeCalls ledger before [] [] after = before ≡ after
TakeCalls ledger before [] (c ∷ cs) after = ⊥
TakeCalls ledger before (r ∷ rs) [] after = ⊥
TakeCalls ledger before (r ∷ rs) (c ∷ cs) after =
    (middle : PassTerms) × TakesCall ledger before middle r c × TakeCalls ledger middle rs cs after

-- what the costs add up to
abbrev pub sum_of_costs : List CostTerms → CostTerms
sum_of_costs costs = record {
  steps = sum_by (λ (c : CostTerms). c.steps) costs;
  exchanges = sum_by (λ (c : CostTerms). c.exchanges) costs;
  new_records = sum_by (λ (c : CostTerms). c.new_records) costs;
}
