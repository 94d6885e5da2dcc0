-- Jobs that were run: their passes are accounted for by their receipts, which are of the calls of the jobs.
use Rattle.std.proofs.Common.{◌≡◌, ℕ, ◌^◌, ◌<◌, All, Bool, List, [], ◌∷◌, length, get_or, map, refl, sym, ap, subst, ◌∙◌, arith, Result, Ok, Err, None}
use Rattle.at_commands.proofs.Prelude.{AllocError, IfOk, get_or-map, length-map, AllZip-get_or, AllZip-long, AllZip, contents_of, IsPlayable, BoardTerms, calls_in, BookTerms, Legal, Whole, Call, Line, ClosingTerms, calls_of, Receipt, AreAccountedFor, ClosedTerms, IsAccountedFor, AreJobsFor, HaveCosted, IsClosedAfter, IsPlayed, costs_in, journal_of, Left, JobTerms, Ran}
use Rattle.at_commands.proofs.JobsMade.{files_of, passes_in}
use Rattle.at_commands.proofs.Laws.RunTotals.{IsLineOn-Whole, sum-last_state}

-- the receipts of jobs
abbrev pub receipts_in : List JobTerms → List (List Receipt)
receipts_in jobs = map (λ (job : JobTerms). job.receipts) jobs

-- each job's receipts are of its calls
pub files_of-ran : (ledger : BoardTerms) (before after : List JobTerms) → AllZip (Ran ledger) before after
    → map calls_of (receipts_in after) ≡ files_of before
files_of-ran ledger [] [] ran = refl
files_of-ran ledger [] (job ∷ after) ran = absurd ran
files_of-ran ledger (job ∷ before) [] ran = absurd ran
files_of-ran ledger (job ∷ before) (made ∷ after) ran =
    ap (λ (calls : List Call). calls ∷ map calls_of (receipts_in after)) ran.0.made
    ∙ ap (λ (files : List (List Call)). job.calls ∷ files) (files_of-ran ledger before after ran.1)

-- the passes and the receipts of the jobs are those of all processes
pub AreAccountedFor-ran : (ledger : BoardTerms) (files : List (List Call)) (notes : Bool) (before after : List JobTerms) → AreJobsFor ledger files notes before
    → AllZip (Ran ledger) before after → AreAccountedFor ledger (passes_in after) (receipts_in after)
AreAccountedFor-ran ledger files notes before after jobs ran =
    let count : length after ≡ ledger.book.processes = AllZip-long (Ran ledger) before after ran ∙ jobs.count in
    record {
      passes_count = length-map after (λ (job : JobTerms). job.pass) ∙ count;
      receipts_count = length-map after (λ (job : JobTerms). job.receipts) ∙ count;
      each = λ p d below.
          let none : JobTerms = record { pass = d; calls = []; receipts = []; costs = None } in
          let within : p < length before = omega (arith, below, jobs.count) in
          let here : p < length after = omega (arith, below, count) in
          let one : Ran ledger (get_or before p none) (get_or after p none) = AllZip-get_or (Ran ledger) before after p none none ran within in
          let pass : get_or (passes_in after) p d ≡ (get_or after p none).pass = get_or-map (λ (job : JobTerms). job.pass) after p none d here in
          let receipts : get_or (receipts_in after) p [] ≡ (get_or after p none).receipts =
          get_or-map (λ (job : JobTerms). job.receipts) after p none [] here in
          subst (IsAccountedFor ledger p (get_or (passes_in after) p d)) (sym receipts)
          (subst (λ x. IsAccountedFor ledger p x (get_or after p none).receipts) (sym pass) (record {
            of_ledger = one.of_ledger;
            process_is = one.process_is ∙ (jobs.new p none within).process_is;
            stands = one.stands;
            made = one.past;
          }));
    }

-- what is left of jobs, or no memory
abbrev LeftOrNone : Type 0
LeftOrNone = Result Left AllocError

pub IfOk-accounted : (ledger : BoardTerms) (after : List JobTerms) (left : LeftOrNone) → AreAccountedFor ledger (passes_in after) (receipts_in after)
    → IfOk left (λ r. r.passes.items ≡ passes_in after) → IfOk left (λ r. contents_of r.receipts.items ≡ receipts_in after)
    → IfOk left (λ r. AreAccountedFor ledger r.passes.items (contents_of r.receipts.items))
IfOk-accounted ledger after (Ok left) accounted passes receipts = rw (passes, receipts) accounted
IfOk-accounted ledger after (Err refusal) accounted passes receipts = tt

pub IfOk-receipts : (after : List JobTerms) (files : List (List Call)) (left : LeftOrNone) → map calls_of (receipts_in after) ≡ files
    → IfOk left (λ r. contents_of r.receipts.items ≡ receipts_in after)
    → IfOk left (λ r. map calls_of (contents_of r.receipts.items) ≡ files)
IfOk-receipts after files (Ok left) are receipts = rw receipts are
IfOk-receipts after files (Err refusal) are receipts = tt

pub IfOk-costed : (ledger : BoardTerms) (notes : Bool) (after : List JobTerms) (left : LeftOrNone)
    → HaveCosted ledger notes (passes_in after) (receipts_in after) (costs_in after) → IfOk left (λ r. r.passes.items ≡ passes_in after)
    → IfOk left (λ r. contents_of r.receipts.items ≡ receipts_in after) → IfOk left (λ r. contents_of r.costs.items ≡ costs_in after)
    → IfOk left (λ r. HaveCosted ledger notes r.passes.items (contents_of r.receipts.items) (contents_of r.costs.items))
IfOk-costed ledger notes after (Ok left) costed passes receipts costs = rw (passes, receipts, costs) costed
IfOk-costed ledger notes after (Err refusal) costed passes receipts costs = tt

-- the receipts of a closing are as few as the calls of the files
pub few-calls_in : (accounts : ℕ) (c : ClosingTerms) → All (IsPlayable accounts) (calls_in c) → All (λ receipts. length receipts < 2 ^ 32) c.receipts
few-calls_in accounts c known = λ p d within.
    let count : length (calls_in c) ≡ length c.receipts = length-map c.receipts calls_of in
    let file : get_or (calls_in c) p [] ≡ calls_of (get_or c.receipts p d) = get_or-map calls_of c.receipts p d [] within in
    let few = (known p [] (omega (arith, within, count))).few in
    omega (arith, few, ap (λ (calls : List Call). length calls) file, length-map (get_or c.receipts p d) (λ (r : Receipt). r.call))

-- the journal of a closed ledger on which files were run
pub IsPlayed-journal : (b : BookTerms) (files : List (List Call)) (closed : ClosedTerms) (lines : List Line) → IsClosedAfter b files closed
    → length files ≡ b.processes → All (IsPlayable (length b.accounts)) files → lines ≡ journal_of closed → Whole (calls_in closed.closing) lines
    → Legal closed.book lines → IsPlayed b files closed lines
IsPlayed-journal b files closed lines run count known are whole legal =
    let whole_of : Whole files lines = rw run.calls_are at whole in
    let on = IsLineOn-Whole (length b.accounts) b.processes files lines whole_of count (λ p d within. (known p d within).known) in
    record {
      run = run;
      lines_are = are;
      whole = whole_of;
      legal = rw run.book_is at legal;
      on = on;
      total = sum-last_state b b.processes lines on;
    }
