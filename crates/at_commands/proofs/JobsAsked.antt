-- Passes with the calls that are asked of them, and the jobs that are made of these.
use Rattle.std.proofs.Common.{◌≡◌, ℕ, ◌<◌, Bool, true, false, List, [], ◌∷◌, length, get_or, map, refl, sym, ap, subst, ◌∙◌, arith, All, Vec, Err}
use Rattle.at_commands.proofs.Prelude.{ext_get_or, get_or-map, length-map, All-cons, All-nil, Global, AllocError, is_some, BoardTerms, IsPlayable, Call, AreNewPasses, IsNewPass, PassTerms, AreAsked, MayBeAsked, job_asked, AreJobsFor, Asked, JobTerms, JobRefused}
use Rattle.std.specs.Prelude.{IfOk, Ok, Result}
use Rattle.at_commands.proofs.JobsMade.{AreJobsFor-made, AreUnmade, IsUnmade, files_of, passes_in}

-- the passes, and the calls beside each of them
abbrev pub passes_asked : List Asked → List PassTerms
passes_asked asked = map (λ (a : Asked). a.pass) asked

abbrev pub calls_asked : List Asked → List (List Call)
calls_asked asked = map (λ (a : Asked). a.calls.items) asked

-- jobs that were all made
abbrev pub made_of : List JobTerms → List (Result JobTerms JobRefused)
made_of jobs = map Ok jobs

-- a new pass and the calls of its file may be asked
pub MayBeAsked-at : (ledger : BoardTerms) (passes : List PassTerms) (files : List (List Call)) (asked : List Asked) (i : ℕ) (a : Asked)
    → AreNewPasses ledger passes → All (IsPlayable (length ledger.book.accounts)) files → AreAsked passes files asked
    → i < length asked → a ≡ get_or asked i a → MayBeAsked a
MayBeAsked-at ledger passes files asked i a new known are within is =
    let pass_is : get_or passes i a.pass ≡ a.pass =
    ap (λ (l : List PassTerms). get_or l i a.pass) (sym are.passes_are)
    ∙ (get_or-map (λ (x : Asked). x.pass) asked i a a.pass within ∙ ap (λ (x : Asked). x.pass) (sym is)) in
    let calls_are : get_or files i a.calls.items ≡ a.calls.items =
    ap (λ (l : List (List Call)). get_or l i a.calls.items) (sym are.files_are)
    ∙ (get_or-map (λ (x : Asked). x.calls.items) asked i a a.calls.items within ∙ ap (λ (x : Asked). x.calls.items) (sym is)) in
    let pass : IsNewPass ledger i a.pass =
    subst (IsNewPass ledger i) pass_is
    (new.each i a.pass (omega (arith, within, new.count, ap (length {A = PassTerms}) are.passes_are, length-map asked (λ (x : Asked). x.pass)))) in
    let playable : IsPlayable (length ledger.book.accounts) a.calls.items =
    subst (IsPlayable (length ledger.book.accounts)) calls_are
    (known i a.calls.items (omega (arith, within, ap (length {A = List Call}) are.files_are, length-map asked (λ (x : Asked). x.calls.items)))) in
    record { stands = pass.stands; unmade = pass.past_none; accounts = rw pass.of_ledger.book playable.known; few = omega (arith, playable.few) }

-- the jobs of what is asked: their passes, their calls, and that none was made
passes_in-asked : (notes : Bool) (asked : List Asked) → passes_in (map (job_asked notes) asked) ≡ passes_asked asked
passes_in-asked notes [] = refl
passes_in-asked notes (a ∷ asked) = ap (λ (l : List PassTerms). a.pass ∷ l) (passes_in-asked notes asked)

files_of-asked : (notes : Bool) (asked : List Asked) → files_of (map (job_asked notes) asked) ≡ calls_asked asked
files_of-asked notes [] = refl
files_of-asked notes (a ∷ asked) = ap (λ (l : List (List Call)). a.calls.items ∷ l) (files_of-asked notes asked)

notes-asked : (notes : Bool) (a : Asked) → is_some (job_asked notes a).costs ≡ notes
notes-asked true a = refl
notes-asked false a = refl

AreUnmade-asked : (notes : Bool) (asked : List Asked) → AreUnmade notes (map (job_asked notes) asked)
AreUnmade-asked notes [] = All-nil (IsUnmade notes)
AreUnmade-asked notes (a ∷ asked) =
    All-cons (IsUnmade notes) (job_asked notes a) (map (job_asked notes) asked) (refl, notes-asked notes a) (AreUnmade-asked notes asked)

-- lists of jobs that are the same at each place
same_jobs : (notes : Bool) (asked : List Asked) (jobs : List JobTerms) → length jobs ≡ length asked
    → ((i : ℕ) (d : JobTerms) → i < length asked → get_or jobs i d ≡ get_or (map (job_asked notes) asked) i d) → jobs ≡ map (job_asked notes) asked
same_jobs notes [] [] long each = refl
same_jobs notes [] (j ∷ jobs) long each = absurd (omega (arith, long))
same_jobs notes (a ∷ asked) jobs long each =
    ext_get_or (job_asked notes a) jobs (map (job_asked notes) (a ∷ asked)) (long ∙ sym (length-map (a ∷ asked) (job_asked notes)))
    (λ i within. each i (job_asked notes a) (omega (arith, within, long)))

-- a job was made of each pass and its calls
pub AreJobsFor-asked : (ledger : BoardTerms) (passes : List PassTerms) (files : List (List Call)) (notes : Bool) (asked : List Asked)
    (made : List (Result JobTerms JobRefused)) (jobs : List JobTerms) → AreNewPasses ledger passes → AreAsked passes files asked → made ≡ made_of jobs
    → length made ≡ length asked
    → ((i : ℕ) (d : Result JobTerms JobRefused) → i < length asked
    → (job : Asked) × ((e : Asked) → get_or asked i e ≡ job) × IfOk (get_or made i d) (λ j. j ≡ job_asked notes job))
    → AreJobsFor ledger files notes jobs
AreJobsFor-asked ledger passes files notes asked made jobs new are all long each =
    let count : length jobs ≡ length asked =
    sym (length-map {A = JobTerms} {B = Result JobTerms JobRefused} jobs Ok) ∙ (sym (ap (length {A = Result JobTerms JobRefused}) all) ∙ long) in
    let same : jobs ≡ map (job_asked notes) asked =
    same_jobs notes asked jobs count (λ i d within.
    let one = each i (Ok d) within in
    let here : get_or made i (Ok d) ≡ Ok (get_or jobs i d) =
    ap (λ (l : List (Result JobTerms JobRefused)). get_or l i (Ok d)) all ∙ get_or-map Ok jobs i d (Ok d) (omega (arith, within, count)) in
    let met : get_or jobs i d ≡ job_asked notes one.0 =
    subst (λ (r : Result JobTerms JobRefused). IfOk r (λ j. j ≡ job_asked notes one.0)) here one.2 in
    met ∙ sym (get_or-map (job_asked notes) asked i one.0 d within ∙ ap (job_asked notes) (one.1 one.0))) in
    AreJobsFor-made ledger passes files notes jobs new
    (sym are.passes_are ∙ (sym (passes_in-asked notes asked) ∙ sym (ap passes_in same)))
    (sym are.files_are ∙ (sym (files_of-asked notes asked) ∙ sym (ap files_of same)))
    (subst (AreUnmade notes) (sym same) (AreUnmade-asked notes asked))

-- and so it was of the result of making them all
pub IfOk-asked : (ledger : BoardTerms) (passes : List PassTerms) (files : List (List Call)) (notes : Bool) (asked : List Asked)
    (made : List (Result JobTerms JobRefused)) (r : Result (Vec JobTerms Global) AllocError) → AreNewPasses ledger passes → AreAsked passes files asked
    → length made ≡ length asked
    → ((i : ℕ) (d : Result JobTerms JobRefused) → i < length asked
    → (job : Asked) × ((e : Asked) → get_or asked i e ≡ job) × IfOk (get_or made i d) (λ j. j ≡ job_asked notes job))
    → IfOk r (λ jobs. made ≡ made_of jobs.items) → IfOk r (λ jobs. AreJobsFor ledger files notes jobs.items)
IfOk-asked ledger passes files notes asked made (Ok jobs) new are long each all = AreJobsFor-asked ledger passes files notes asked made jobs.items new are all long each
IfOk-asked ledger passes files notes asked made (Err e) new are long each all = tt
