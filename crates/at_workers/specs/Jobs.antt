-- Jobs as callers see them, what the type of a job keeps, and what running it leaves.
use Rattle.std.specs.Prelude.{◌≡◌, ℕ, ◌^◌, ◌<◌, ◌≤◌, ◌++◌, List, [], ◌∷◌, length, slice_index_or, All, IfSome, Option, Vec}
use Rattle.at_workers.specs.Prelude.{Global, is_some, vec_capacity, IsCallOn, Call, IsPrefix, BoardTerms, calls_of, Receipt, IsPassOf, PassTerms, CostTerms, Stands, cost_of, past_receipts}
use Rattle.at_workers.specs.Costs.{IsCalled, TakeCalls, costs_with}

-- a job by its pass, its calls, the receipts of those that were made, and what these cost, where that is noted
pub record JobTerms : Type 0 where
  pub pass : PassTerms
  pub calls : List Call
  pub receipts : List Receipt
  pub costs : Option (List CostTerms)

-- there is one cost for each receipt, and room for so many
pub record HasCosts (receipts : List Receipt) (room : ℕ) (costs : Vec CostTerms Global) : Type 0 where
  pub count : length costs.items ≡ length receipts
  pub fits : room ≤ vec_capacity costs

-- the calls name accounts of the book, and are numbered by 32 bits. So many of them were made: their receipts stand with the pass,
-- and are those of its calls. There is room for the cost of each call, where costs are noted
pub record IsJob (job : JobTerms) (made : ℕ) (costs : Option (Vec CostTerms Global)) : Type 0 where
  pub calls_on : All (IsCallOn (length job.pass.knows.book.accounts)) job.calls
  pub few : length job.calls < 2 ^ 32
  pub stands : Stands job.pass job.receipts
  pub past : past_receipts job.pass ≡ job.receipts
  pub made_are : length job.receipts ≡ made
  pub within : length job.receipts ≤ length job.calls
  pub costs_fit : IfSome costs (HasCosts job.receipts (length job.calls))

-- the job can be run on the ledger: its pass is of it, and no call was made yet
pub record IsReady (ledger : BoardTerms) (job : JobTerms) : Type 0 where
  pub of_ledger : IsPassOf job.pass ledger
  pub unmade : job.receipts ≡ []

-- the next call of the job was made on the ledger
pub record MakesNext (ledger : BoardTerms) (before after : JobTerms) : Type 0 where
  pub receipt : Receipt
  pub call_is : (d : Call) → receipt.call ≡ slice_index_or before.calls (length before.receipts) d
  pub called : IsCalled ledger before.pass after.pass receipt.call receipt
  pub receipts_are : after.receipts ≡ before.receipts ++ receipt ∷ []
  pub costs_are : after.costs ≡ costs_with (cost_of before.pass after.pass) before.costs
  pub calls_are : after.calls ≡ before.calls
  pub past : past_receipts after.pass ≡ after.receipts

-- the job was run on the ledger: it has one receipt for each of its calls, in order. These stand with its pass, are those of the
-- pass's calls, and these calls took it there, one after another. Where costs are noted, they are theirs
pub record Ran (ledger : BoardTerms) (before after : JobTerms) : Type 0 where
  pub process_is : after.pass.knows.first ≡ before.pass.knows.first
  pub calls_are : after.calls ≡ before.calls
  pub made : calls_of after.receipts ≡ before.calls
  pub stands : Stands after.pass after.receipts
  pub past : past_receipts after.pass ≡ after.receipts
  pub of_ledger : IsPassOf after.pass ledger
  pub begins : IsPrefix before.pass.knows.seen after.pass.knows.seen
  pub notes : is_some after.costs ≡ is_some before.costs
  pub costs : List CostTerms
  pub taken : TakeCalls ledger before.pass after.receipts costs after.pass
  pub noted : IfSome after.costs (λ list. list ≡ costs)
