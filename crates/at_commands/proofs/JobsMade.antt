-- Jobs that are made one after another, of passes and files.
use Rattle.std.proofs.Common.{◌≡◌, ℕ, ◌<◌, Bool, List, [], length, get_or, map, All, sym, ap, subst, ◌∙◌, arith}
use Rattle.at_commands.proofs.Prelude.{is_some, get_or-map, length-map, BoardTerms, Call, AreNewPasses, IsNewPass, PassTerms, AreJobsFor, JobTerms}

-- the passes and the calls of jobs, and that none of the calls was made, of jobs that note costs or of jobs that don't
abbrev pub passes_in : List JobTerms → List PassTerms
passes_in jobs = map (λ (job : JobTerms). job.pass) jobs

abbrev pub files_of : List JobTerms → List (List Call)
files_of jobs = map (λ (job : JobTerms). job.calls) jobs

abbrev pub IsUnmade : Bool → JobTerms → Type 0
IsUnmade notes job = (job.receipts ≡ []) × (is_some job.costs ≡ notes)

abbrev pub AreUnmade : Bool → List JobTerms → Type 0
AreUnmade notes jobs = All (IsUnmade notes) jobs

-- the jobs of all passes and files
pub AreJobsFor-made : (ledger : BoardTerms) (passes : List PassTerms) (files : List (List Call)) (notes : Bool) (jobs : List JobTerms)
    → AreNewPasses ledger passes → passes ≡ passes_in jobs → files ≡ files_of jobs → AreUnmade notes jobs → AreJobsFor ledger files notes jobs
AreJobsFor-made ledger passes files notes jobs new passes_are files_are unmade =
    let count : length jobs ≡ ledger.book.processes =
    sym (ap (λ (l : List PassTerms). length l) passes_are ∙ length-map jobs (λ (job : JobTerms). job.pass)) ∙ new.count in
    let pass_at : (p : ℕ) (d : JobTerms) → p < length jobs → IsNewPass ledger p (get_or jobs p d).pass = λ p d within.
    subst (IsNewPass ledger p)
    (ap (λ (l : List PassTerms). get_or l p d.pass) passes_are ∙ get_or-map (λ (job : JobTerms). job.pass) jobs p d d.pass within)
    (new.each p d.pass (omega (arith, within, count))) in
    record {
      count = count;
      calls = sym files_are;
      ready = λ p d within. record { of_ledger = (pass_at p d within).of_ledger; unmade = (unmade p d within).0 };
      new = pass_at;
      noting = λ p d within. (unmade p d within).1;
    }
