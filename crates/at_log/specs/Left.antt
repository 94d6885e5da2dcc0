-- What a ledger leaves: the lists of its last state and of its processes' receipts.
use Rattle.std.specs.Prelude.{◌≡◌, ℕ, ◌<◌, length, None}
use Rattle.at_log.specs.Prelude.{BookTerms, BoardState, IsHistory, publications_of, Sound}
use Rattle.at_log.specs.ClosingTerms.{ClosingTerms, log_published, receipts_of}
use Rattle.at_log.specs.Told.{Told}
use Rattle.at_log.specs.InOrder.{AreInOrder}

-- the closing is what the state leaves, which is sound and in which no cell is held: its logs are the one list of publications,
-- divided by process. The receipts of each process account for all that it has in that list, where its own records and its requests
-- are in order
pub record IsLeft (b : BookTerms) (s : BoardState) (c : ClosingTerms) : Type 0 where
  pub sound : Sound b s
  pub history : IsHistory b s.published
  pub free : (p : ℕ) → p < b.processes → s.held p ≡ None
  pub logs : length c.logs ≡ b.processes
  pub log : (p : ℕ) → p < b.processes → log_published c p ≡ publications_of p s.published
  pub receipts : length c.receipts ≡ b.processes
  pub told : (p : ℕ) → p < b.processes → Told b p s.published (receipts_of c p)
  pub order : (p : ℕ) → p < b.processes → AreInOrder b p s.published s.rows
