-- Closed ledgers on which files were run.
use Rattle.std.specs.Prelude.{◌≡◌, ℕ, ◌^◌, ◌<◌, Bool, true, List, [], flat_map, length, map, slice_index_or, sum, All}
use Rattle.at_commands.specs.Prelude.{is_some, option_to_list, BoardTerms, AreCallsOf, calls_in, line_at, CallAt, BookTerms, total_of, with_usable_room, IsLineOn, Legal, Whole, last_state, Call, Line, Coherent, journal_lines, Receipt, ClosedTerms, AreNewPasses, IsNewPass, PassTerms, CostTerms, TakeCalls, cost_so_far, past_costs, sum_of_costs, IsReady, JobTerms}

-- this is a ledger of the book with the own room that can be used, and there is a new pass on it for each process
pub record HasNewPasses (b : BookTerms) (ledger : BoardTerms) (passes : List PassTerms) : Type 0 where
  pub book_is : ledger.book ≡ with_usable_room b
  pub passes_are : AreNewPasses ledger passes

-- calls with these receipts, one after another, took the new pass of the process on the ledger to what it is among these passes. Each of
-- these costs is what the pass gained by one of them, and is kept so by the pass; they add up to all that it has made and counted
pub record TakesNewPass (ledger : BoardTerms) (passes : List PassTerms) (process : ℕ) (receipts : List Receipt) (costs : List CostTerms) : Type 0 where
  pub before : PassTerms
  pub after : PassTerms
  pub is_new : IsNewPass ledger process before
  pub is_left : (d : PassTerms) → slice_index_or passes process d ≡ after
  pub taken : TakeCalls ledger before receipts costs after
  pub past_are : past_costs after ≡ costs
  pub add_up : sum_of_costs costs ≡ cost_so_far after

-- calls with the receipts of each process took its new pass so, and these are their costs
pub record AreCosts (ledger : BoardTerms) (passes : List PassTerms) (receipts : List (List Receipt)) (costs : List (List CostTerms)) : Type 0 where
  pub count : length costs ≡ ledger.book.processes
  pub each : (p : ℕ) → p < ledger.book.processes → TakesNewPass ledger passes p (slice_index_or receipts p []) (slice_index_or costs p [])

-- the calls of the files were made on the closed ledger, and no others: it has a receipt for each call of each process's file, in the
-- order of the file. Each was a call of that process's pass, which is left as they took it. The ledger was made for the book, as far as
-- own room can be used. The closing is coherent
pub record IsClosedAfter (b : BookTerms) (files : List (List Call)) (closed : ClosedTerms) : Type 0 where
  pub book_is : closed.book ≡ b
  pub usable : with_usable_room closed.ledger.book ≡ with_usable_room b
  pub calls_are : calls_in closed.closing ≡ files
  pub costs : List (List CostTerms)
  pub costed : AreCosts closed.ledger closed.passes closed.closing.receipts costs
  pub coherent : Coherent closed.book closed.closing

-- the lines of its journal
abbrev pub journal_of : ClosedTerms → List Line
journal_of closed = journal_lines closed.closing

-- these are the lines of its journal: one legal run of the files' calls, each on the book, which changes no total
pub record IsPlayed (b : BookTerms) (files : List (List Call)) (closed : ClosedTerms) (lines : List Line) : Type 0 where
  pub run : IsClosedAfter b files closed
  pub lines_are : lines ≡ journal_of closed
  pub whole : Whole files lines
  pub legal : Legal b lines
  pub on : All (IsLineOn b.processes (length b.accounts)) lines
  pub total : sum (last_state b lines).balances ≡ total_of b

-- its journal is that of a run of the files' calls, and these are its calls in the order of its lines
pub record IsPlayedInOrder (b : BookTerms) (files : List (List Call)) (closed : ClosedTerms) (calls : List CallAt) : Type 0 where
  pub played : IsPlayed b files closed (journal_of closed)
  pub known : AreCallsOf closed.closing calls
  pub few : All (λ receipts. length receipts < 2 ^ 32) closed.closing.receipts
  pub lines_are : map (line_at closed.closing) calls ≡ journal_of closed

-- the calls of the files were made on the closed ledger of the book. Where they are to be noted, these are the costs of its calls
pub record IsClosedNoting (b : BookTerms) (files : List (List Call)) (notes : Bool) (closed : ClosedTerms) (costs : List (List CostTerms)) : Type 0 where
  pub run : IsClosedAfter b files closed
  pub ledger_is : closed.ledger.book ≡ b
  pub costs_are : notes ≡ true → costs ≡ run.costs

-- the calls of the files were made on the closed ledger, its journal is one legal run of them, and these are the costs of its calls
pub record IsPlayedNoting (b : BookTerms) (files : List (List Call)) (closed : ClosedTerms) (costs : List (List CostTerms)) : Type 0 where
  pub played : IsPlayed b files closed (journal_of closed)
  pub ledger_is : closed.ledger.book ≡ b
  pub costed : AreCosts closed.ledger closed.passes closed.closing.receipts costs

-- a job for each process, in order, with its new pass and the calls of its file to make on the ledger. Each notes costs, or none does
pub record AreJobsFor (ledger : BoardTerms) (files : List (List Call)) (notes : Bool) (jobs : List JobTerms) : Type 0 where
  pub count : length jobs ≡ ledger.book.processes
  pub calls : map (λ (job : JobTerms). job.calls) jobs ≡ files
  pub ready : All (IsReady ledger) jobs
  pub new : (p : ℕ) (d : JobTerms) → p < length jobs → IsNewPass ledger p (slice_index_or jobs p d).pass
  pub noting : All (λ (job : JobTerms). is_some job.costs ≡ notes) jobs

-- the costs that jobs have noted, a list for each job that did
abbrev pub costs_in : List JobTerms → List (List CostTerms)
costs_in jobs = flat_map (λ (job : JobTerms). option_to_list job.costs) jobs

-- what the calls of jobs cost, whose receipts and passes these are. What was noted of it is that, where it was to be noted
pub record HaveCosted (ledger : BoardTerms) (notes : Bool) (passes : List PassTerms) (receipts : List (List Receipt)) (noted : List (List CostTerms)) : Type 0 where
  pub costs : List (List CostTerms)
  pub are : AreCosts ledger passes receipts costs
  pub noted_are : notes ≡ true → noted ≡ costs
