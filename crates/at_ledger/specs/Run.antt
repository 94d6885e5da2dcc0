-- Runs of the sequential ledger, and the lists of lines that are one.
use Rattle.std.specs.Prelude.{◌≡◌, ℕ, ◌<◌, ◌==◌, List, [], ◌∷◌, length, map, filter, slice_index_or, All}
use Rattle.at_ledger.specs.Prelude.{range_with_len}
use Rattle.at_ledger.specs.Book.{BookTerms}
use Rattle.at_ledger.specs.State.{LedgerState, step, opening_state}
use Rattle.at_ledger.specs.declared.call.Call.{Call}
use Rattle.at_ledger.specs.declared.call.Reply.{Reply}
use Rattle.at_ledger.specs.declared.call.Line.{Line}

-- the replies in order, and the last state
pub record Run : Type 0 where
  pub replies : List Reply
  pub last : LedgerState

-- a reply before a run from the state after it
abbrev pub run_after : Reply → Run → Run
run_after reply r = record { replies = reply ∷ r.replies; last = r.last }

-- the calls of these processes, one after another
unfoldable pub run_from : LedgerState → List (ℕ × Call) → Run
run_from s [] = record { replies = []; last = s }
run_from s (c ∷ cs) = run_after (step s c.0 c.1).reply (run_from (step s c.0 c.1).ledger cs)

-- the replies of calls made one after another from the openings, and the last state
abbrev pub run : BookTerms → List (ℕ × Call) → Run
run b calls = run_from (opening_state b) calls

-- who asked what, line by line
abbrev pub asked_in : List Line → List (ℕ × Call)
asked_in lines = map (λ l. (l.process, l.call)) lines

-- the replies of the lines are those of the ledger
abbrev pub Legal : BookTerms → List Line → Type 0
Legal b lines = map (λ l. l.reply) lines ≡ (run b (asked_in lines)).replies

-- the state after all lines
abbrev pub last_state : BookTerms → List Line → LedgerState
last_state b lines = (run b (asked_in lines)).last

-- the lines of one process, in their order
abbrev pub lines_of : ℕ → List Line → List Line
lines_of process lines = filter (λ l. l.process == process) lines

-- the lines of each process are the calls of its file, all of them in order, numbered from 1
pub record Whole (files : List (List Call)) (lines : List Line) : Type 0 where
  pub within : All (λ l. l.process < length files) lines
  pub calls : (p : ℕ) → p < length files → map (λ l. l.call) (lines_of p lines) ≡ slice_index_or files p []
  pub numbers : (p : ℕ) → p < length files → map (λ l. l.number) (lines_of p lines) ≡ range_with_len 1 (length (lines_of p lines))
