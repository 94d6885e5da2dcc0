-- The calls of files, made one after another: how many each process has made, and which line comes next.
use Rattle.std.specs.Prelude.{◌≡◌, ℕ, ◌+◌, ◌<◌, ◌≤◌, List, [], length, Some, slice_get, slice_index, slice_index_or, slice_set}
use Rattle.at_ledger.specs.State.{LedgerState, step}
use Rattle.at_ledger.specs.declared.call.Call.{Call}
use Rattle.at_ledger.specs.declared.call.Line.{Line}

-- the line is the next one of its process, which has made so many of its calls: the call of its file, with the ledger's reply
pub record IsNextOfProcess (files : List (List Call)) (s : LedgerState) (made : List ℕ) (l : Line) : Type 0 where
  pub process : l.process < length files
  pub number : l.number ≡ slice_index made l.process + 1
  pub call : slice_get (slice_index_or files l.process []) (slice_index made l.process) ≡ Some l.call
  pub reply : l.reply ≡ (step s l.process l.call).reply

-- the process has made one more call
abbrev pub with_made : List ℕ → ℕ → List ℕ
with_made made process = slice_set made process (slice_index made process + 1)

-- no process has made more calls than its file has
pub record AreWithinFiles (files : List (List Call)) (made : List ℕ) : Type 0 where
  pub each : length made ≡ length files
  pub within : (p : ℕ) → p < length files → slice_index made p ≤ length (slice_index_or files p [])
