-- Lines that are linearizable, for times at which their calls begin and end.
use Rattle.std.specs.Prelude.{◌≢◌, ℕ, ◌-◌, ◌<◌, ◌≤◌, List, length, slice_index_or}
use Rattle.at_journal.specs.Prelude.{IsPermutation, BookTerms, Legal, Whole, Call, Line, ClosingTerms, receipts_of, IsNotBehind, receipt_at, At}

-- when each call begins and ends, by its process and its number from 0
pub record CallTimes : Type 0 where
  pub begun : ℕ → ℕ → ℕ
  pub ended : ℕ → ℕ → ℕ

-- the call of the first line ends before that of the second begins: lines number the calls of a process from 1
abbrev pub EndsBefore : CallTimes → Line → Line → Type 0
EndsBefore times x y = times.ended x.process (x.number - 1) < times.begun y.process (y.number - 1)

-- in some order of these lines each reply is the ledger's, the calls of each process stand as in its file, and each call
-- that ended before another began stands before it
pub record IsLinearizable (b : BookTerms) (files : List (List Call)) (times : CallTimes) (lines : List Line) : Type 0 where
  pub order : List Line
  pub same : IsPermutation lines order
  pub legal : Legal b order
  pub whole : Whole files order
  pub in_time : (k l : ℕ) (d : Line) → k < length order → l < length order
      → EndsBefore times (slice_index_or order k d) (slice_index_or order l d) → k < l

-- a closing's calls have these times: each ends when it begins or later, those of one process come one after another, and
-- of two calls with places one that ended before the other began isn't behind it in the journal's order
pub record AreTimed (c : ClosingTerms) (times : CallTimes) : Type 0 where
  pub spans : (p i : ℕ) → p < length c.receipts → i < length (receipts_of c p) → times.begun p i ≤ times.ended p i
  pub sequential : (p i j : ℕ) → p < length c.receipts → i < j → j < length (receipts_of c p) → times.ended p i < times.begun p j
  pub in_time : (p i q j : ℕ) → p < length c.receipts → i < length (receipts_of c p) → q < length c.receipts → j < length (receipts_of c q)
      → (receipt_at (receipts_of c p) i).at ≢ At.Previous → (receipt_at (receipts_of c q) j).at ≢ At.Previous
      → times.ended p i < times.begun q j → IsNotBehind c p i q j
