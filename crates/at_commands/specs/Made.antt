-- What `make` prints: openings, credits and debits, whatever the order of the calls.
use Rattle.std.specs.Prelude.{◌≡◌, ℕ, ⊤, ◌+◌, ◌-◌, ◌==◌, false, not, All, List, length, map, sum_by, if◌then◌else◌, Option, Some}
use Rattle.at_commands.specs.Prelude.{range_with_len, BookTerms, account_of, amount_of, LedgerState, opening_state, Legal, Whole, Call, Transfer, Read, Pay, Line, ClosedTerms, is_read, summary_of, summary_text}
use Rattle.at_commands.specs.declared.numbers.Making.{Making}
use Rattle.at_ledger.specs.declared.call.Reply.TheVariants.{Done}
use Rattle.at_commands.specs.Commands.{Promise, unread_promise}
use Rattle.at_commands.specs.Generator.{book_made, files_made}
use Rattle.at_commands.specs.Running.{IsClosedAfter, journal_of}

-- what the call brings to the account once it is done
abbrev pub call_credit : ℕ → Call → ℕ
call_credit account (Transfer from to amount) = if to == account then amount else 0
call_credit account (Read asked) = 0
call_credit account (Pay from targets) = sum_by (λ t. if t.0 == account then t.1 else 0) targets

-- what the call takes from the account once it is done
abbrev pub call_debit : ℕ → Call → ℕ
call_debit account (Transfer from to amount) = if from == account then amount else 0
call_debit account (Read asked) = 0
call_debit account (Pay from targets) = if from == account then amount_of targets else 0

-- a sum over all calls of the files
abbrev pub over_files : (Call → ℕ) → List (List Call) → ℕ
over_files term files = sum_by (λ calls. sum_by term calls) files

-- how many transfers there are
abbrev pub transfers_in : List (List Call) → ℕ
transfers_in files = over_files (λ call. if not (is_read call) then 1 else 0) files

-- how many reads there are
abbrev pub reads_in : List (List Call) → ℕ
reads_in files = over_files (λ call. if is_read call then 1 else 0) files

-- the opening, with all credits and without all debits
abbrev pub balance_settled : BookTerms → List (List Call) → ℕ → ℕ
balance_settled b files account = (account_of b account).opening + over_files (call_credit account) files - over_files (call_debit account) files

-- the openings moved by all calls
abbrev pub state_settled : BookTerms → List (List Call) → LedgerState
state_settled b files = record (opening_state b) { balances = map (balance_settled b files) (range_with_len 0 (length b.accounts)) }

-- the summary where all transfers succeed
abbrev pub summary_settled : BookTerms → List (List Call) → ℕ → ℕ → List ℕ
summary_settled b files first calls = summary_of b first calls (transfers_in files) (reads_in files) (state_settled b files)

-- the text of `make`
unfoldable pub made : ℕ → ℕ → ℕ → List ℕ
made first processes calls = summary_settled (book_made processes calls) (files_made first processes calls) first calls

-- each transfer is done, in every legal run of the files
abbrev pub AllDone : BookTerms → List (List Call) → Type 0
AllDone b files = (lines : List Line) → Whole files lines → Legal b lines → All (λ l. is_read l.call ≡ false → l.reply ≡ Done) lines

-- every legal run of the files has this summary
abbrev pub AllSum : BookTerms → List (List Call) → ℕ → ℕ → List ℕ → Type 0
AllSum b files first calls text = (lines : List Line) → Whole files lines → Legal b lines → summary_text b lines first calls ≡ text

-- in every legal run of the calls that three numbers give each transfer is done, every such run has this summary, and
-- there is such a run
pub record IsMade (first processes calls : ℕ) (text : List ℕ) : Type 0 where
  pub done : AllDone (book_made processes calls) (files_made first processes calls)
  pub sum : AllSum (book_made processes calls) (files_made first processes calls) first calls text
  pub some : (lines : List Line) × Whole (files_made first processes calls) lines × Legal (book_made processes calls) lines

-- a closed ledger is kept on which the calls that three numbers give were made. Its journal is one legal run of them, and the text of
-- `make` is that run's summary
pub record SummarizesRun (m : Making) (kept : Option ClosedTerms) : Type 0 where
  pub closed : ClosedTerms
  pub is_kept : kept ≡ Some closed
  pub run : IsClosedAfter (book_made m.processes m.calls) (files_made m.first m.processes m.calls) closed
  pub whole : Whole (files_made m.first m.processes m.calls) (journal_of closed)
  pub legal : Legal (book_made m.processes m.calls) (journal_of closed)
  pub summed : made m.first m.processes m.calls ≡ summary_text (book_made m.processes m.calls) (journal_of closed) m.first m.calls

-- the text is that of the numbers: the summary of every legal run of their calls, whatever its order. It is that of the run that was made
pub record PrintsMade (m : Making) (kept : Option ClosedTerms) (text : List ℕ) : Type 0 where
  pub printed : text ≡ made m.first m.processes m.calls
  pub all : IsMade m.first m.processes m.calls text
  pub ran : SummarizesRun m kept

-- what `make` promises of its three numbers
abbrev pub make_promise : Making → Promise ⊤
make_promise m = unread_promise (PrintsMade m)
