-- The seats of a closed board, with the receipts of their processes.
use Rattle.std.specs.Prelude.{◌≡◌, ℕ, ◌<◌, List, [], length, slice_index_or}
use Rattle.at_log.specs.Prelude.{BookTerms, IsHistory, EndTerms, IsEnd, SeatTerms}
use Rattle.at_log.specs.declared.receipt.Receipt.{Receipt}
use Rattle.at_log.specs.BetweenCalls.{StandsWith}

-- one seat for each process, in order, that has seen a history, and with which these receipts stand
pub record AllStand (b : BookTerms) (seats : List SeatTerms) (receipts : List (List Receipt)) : Type 0 where
  pub count : length seats ≡ b.processes
  pub process : (p : ℕ) (d : SeatTerms) → p < b.processes → (slice_index_or seats p d).knows.first ≡ p
  pub history : (p : ℕ) (d : SeatTerms) → p < b.processes → IsHistory b (slice_index_or seats p d).knows.seen
  pub each : (p : ℕ) (d : SeatTerms) → p < b.processes → StandsWith b (slice_index_or seats p d).knows (slice_index_or receipts p [])

-- the board was closed with seats with which these receipts stand
abbrev pub IsEndWith : EndTerms → List (List Receipt) → Type 0
IsEndWith e receipts = (seats : List SeatTerms) × IsEnd e seats × AllStand e.book seats receipts
