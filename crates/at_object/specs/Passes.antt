-- Passes as callers see them, and what the type of a pass keeps.
use Rattle.std.specs.Prelude.{◌≡◌, ℕ, ◌+◌, ◌-◌, ◌^◌, ◌<◌, List, [], map, min, slice_index, slice_index_or, sum, length}
use Rattle.at_object.specs.Prelude.{TableId, HasSlot, owns_of, asking_on, own_part, BoardTerms, IsOf, SeatTerms, Knowledge, IsBetweenCalls, HasCounted, TotalSums, Told, Receipt}
use Rattle.at_object.specs.PastCalls.{CostTerms, PastCall}

-- a pass by the board of its ledger, what its seat knows, how many steps that has made, how many of them exchanges, how many records
-- of each process its totals have counted, how many calls were made with it, and these calls
pub record PassTerms : Type 0 where
  pub board : TableId
  pub knows : Knowledge
  pub steps : ℕ
  pub exchanges : ℕ
  pub counted : List ℕ
  pub calls : ℕ
  pub past : List PastCall

-- the seat of a pass
abbrev pub seat_of : PassTerms → SeatTerms
seat_of pass = record { board = pass.board; knows = pass.knows; steps = pass.steps; exchanges = pass.exchanges }

-- the pass belongs to the ledger
abbrev pub IsPassOf : PassTerms → BoardTerms → Type 0
IsPassOf pass ledger = IsOf (seat_of pass) ledger

-- a list of receipts stands with the pass: it accounts for all that its process has in what the pass has seen
abbrev pub Stands : PassTerms → List Receipt → Type 0
Stands pass receipts = Told pass.knows.book pass.knows.first pass.knows.seen receipts

-- how many payments from single accounts have succeeded for the process
abbrev pub sent_by : PassTerms → ℕ
sent_by pass = owns_of pass.knows.first pass.knows.seen

-- how many payments from a shared account it has asked for: so many requests it has announced there
abbrev pub asked_by : PassTerms → ℕ → ℕ
asked_by pass account = length (asking_on (own_part pass.knows) account).announced

-- one more call was made, up to the largest count
abbrev pub one_more_call : ℕ → ℕ
one_more_call calls = min (calls + 1) (2 ^ 64 - 1)

-- how many records of other processes are counted
abbrev pub others_counted : PassTerms → ℕ
others_counted pass = sum pass.counted - slice_index pass.counted pass.knows.first

-- how many of them a call has counted that weren't counted before
abbrev pub counted_anew : PassTerms → PassTerms → ℕ
counted_anew before after = others_counted after - others_counted before

-- what a seat has made, with what totals have counted of others
abbrev pub cost_of_parts : SeatTerms → List ℕ → CostTerms
cost_of_parts seat counted =
    record { steps = seat.steps; exchanges = seat.exchanges; new_records = sum counted - slice_index counted seat.knows.first }

-- what a pass has made and counted so far, in calls, looks and notes
abbrev pub cost_so_far : PassTerms → CostTerms
cost_so_far pass = cost_of_parts (seat_of pass) pass.counted

-- what came to it since
abbrev pub cost_since : CostTerms → CostTerms → CostTerms
cost_since before after =
    record { steps = after.steps - before.steps; exchanges = after.exchanges - before.exchanges; new_records = after.new_records - before.new_records }

-- what a call cost that took the pass from one to the other
abbrev pub cost_of : PassTerms → PassTerms → CostTerms
cost_of before after = cost_since (cost_so_far before) (cost_so_far after)

-- that call, with its receipt
abbrev pub past_call : PassTerms → PassTerms → Receipt → PastCall
past_call before after r = record { receipt = r; cost = cost_of before after }

-- the receipts of all its calls
abbrev pub past_receipts : PassTerms → List Receipt
past_receipts pass = map (λ c. c.receipt) pass.past

-- what each of its calls cost
abbrev pub past_costs : PassTerms → List CostTerms
past_costs pass = map (λ c. c.cost) pass.past

-- a pass's process is between calls. Its totals have counted only what the seat has seen, among it all of its own records, and it
-- knows how many of these are own records. It has asked for nothing where it has no slot
pub record IsPass (knows : Knowledge) (totals : TotalSums) (sent : ℕ) : Type 0 where
  pub between : IsBetweenCalls knows.book knows
  pub counted : HasCounted totals knows.book knows.seen
  pub own_counted : slice_index totals.upto knows.first ≡ (own_part knows).published
  pub sent_is : sent ≡ owns_of knows.first knows.seen
  pub unasked : (a : ℕ) → ((slot : ℕ) → ¬ HasSlot knows.book knows.first a slot) → (asking_on (own_part knows) a).announced ≡ []

-- a pass of a new ledger: nothing is seen, no step and no call was made, and the empty list stands with it
pub record IsNewPass (ledger : BoardTerms) (process : ℕ) (pass : PassTerms) : Type 0 where
  pub of_ledger : IsPassOf pass ledger
  pub process_is : pass.knows.first ≡ process
  pub seen : pass.knows.seen ≡ []
  pub steps_are : pass.steps ≡ 0
  pub exchanges_are : pass.exchanges ≡ 0
  pub calls_are : pass.calls ≡ 0
  pub past_none : pass.past ≡ []
  pub counted_none : sum pass.counted ≡ 0
  pub asked_none : (a : ℕ) → asked_by pass a ≡ 0
  pub stands : Stands pass []

-- one for each process, in order
pub record AreNewPasses (ledger : BoardTerms) (passes : List PassTerms) : Type 0 where
  pub count : length passes ≡ ledger.book.processes
  pub each : (p : ℕ) (d : PassTerms) → p < ledger.book.processes → IsNewPass ledger p (slice_index_or passes p d)
