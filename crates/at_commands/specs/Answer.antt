-- What `run` and `check` print.
use Rattle.std.specs.Prelude.{◌≡◌, ℕ, List, length, sum, sum_by, Ok}
use Rattle.at_commands.specs.Prelude.{BookTerms, Call, total_of, Legal, Whole, last_state, ClosedTerms, report_text, checked_line, and_then}
use Rattle.at_commands.specs.Commands.{KeepingClosed, KeepingNone, Never, Promise}
use Rattle.at_commands.specs.Faults.{HasFileNumbers}
use Rattle.at_commands.specs.Faults.Kind.{payments}
use Rattle.at_commands.specs.Forms.{FormTerms, HoldsForm}
use Rattle.at_commands.specs.Loading.{Loaded, MayReach, PaysBytes, Spelled, loaded}
use Rattle.at_commands.specs.Running.{IsClosedAfter, journal_of}
use Rattle.at_commands.specs.Words.{Form}

-- `run`: the text is the report of the journal of a closed ledger on which the files' calls were made: one legal run of them, each process's
-- once and in file order, however the threads' steps fell. The balances that it prints are the run's last, and their sum is that of the
-- openings
pub record ReportsRun (l : Loaded) (closed : ClosedTerms) (text : List ℕ) : Type 0 where
  pub run : IsClosedAfter l.book l.files closed
  pub whole : Whole l.files (journal_of closed)
  pub legal : Legal l.book (journal_of closed)
  pub total : sum (last_state l.book (journal_of closed)).balances ≡ total_of l.book
  pub printed : text ≡ report_text l.book l.names (journal_of closed)

abbrev pub run_terms : FormTerms Call
run_terms = record { refuses = Never; prints = KeepingClosed ReportsRun }

-- a book, and how many calls its files have
pub record Counted : Type 0 where
  pub book : BookTerms
  pub calls : ℕ

abbrev pub calls_counted : Loaded → Counted
calls_counted l = record { book = l.book; calls = sum_by length l.files }

-- so many are the calls of a book and files of which this is so
pub record Counts (is_so : Loaded → Type 0) (c : Counted) : Type 0 where
  pub what : Loaded
  pub so : is_so what
  pub is : c ≡ calls_counted what

-- what `check` promises: it counts what `run` loads
abbrev pub check_promise : Form → Promise Counted
check_promise form = record {
  loaded = λ files. and_then (loaded files form) (λ l. Ok (calls_counted l));
  spells = λ files c. Counts (λ l. Spelled files form l) c;
  holds = Counts (HoldsForm PaysBytes form.files);
  refuses = Never;
  prints = KeepingNone (λ c text. text ≡ checked_line c.book c.calls);
  kind = payments;
  reaches = λ tells files file. MayReach tells files form file;
  numbers = HasFileNumbers (length form.files);
  unread = ⊥;
}
