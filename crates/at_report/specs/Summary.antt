-- The summary of a run.
use Rattle.std.specs.Prelude.{ℕ, Bool, true, false, List, [], ◌∷◌, ◌++◌, codes, decimal, count_by}
use Rattle.at_report.specs.Prelude.{BookTerms, LedgerState, last_state, Call, Transfer, Read, Pay, Reply, Done, Short, NotOwner, Full, Balance, Line, plain_names}
use Rattle.at_report.specs.Lines.{Words, lines_text}
use Rattle.at_report.specs.Report.{audit_lines}

-- whether the amounts were moved
abbrev pub is_done_reply : Reply → Bool
is_done_reply Done = true
is_done_reply Short = false
is_done_reply NotOwner = false
is_done_reply Full = false
is_done_reply (Balance n) = false

-- whether nothing is to be moved
abbrev pub is_read : Call → Bool
is_read (Transfer from to amount) = false
is_read (Read account) = true
is_read (Pay from targets) = false

-- how many lines have the reply Done
abbrev pub done_in : List Line → ℕ
done_in lines = count_by (λ l. is_done_reply l.reply) lines

-- how many lines are reads
abbrev pub read_in : List Line → ℕ
read_in lines = count_by (λ l. is_read l.call) lines

-- what was made, and how many transfers succeeded and how many reads there were
abbrev pub made_lines : ℕ → ℕ → ℕ → ℕ → ℕ → List Words
made_lines first processes calls done reads =
    (codes "made" ∷ decimal first ∷ decimal processes ∷ decimal calls ∷ [])
    ∷ (codes "done" ∷ decimal done ∷ []) ∷ (codes "read" ∷ decimal reads ∷ []) ∷ []

-- these lines, and the audit of the last state
abbrev pub summary_of : BookTerms → ℕ → ℕ → ℕ → ℕ → LedgerState → List ℕ
summary_of b first calls done reads last = lines_text (made_lines first b.processes calls done reads ++ audit_lines (plain_names b) last)

-- the summary of a list of lines. How many calls are done, how many are reads, the balances and the total at the end
abbrev pub summary_text : BookTerms → List Line → ℕ → ℕ → List ℕ
summary_text b lines first calls = summary_of b first calls (done_in lines) (read_in lines) (last_state b lines)
