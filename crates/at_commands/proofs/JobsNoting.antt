-- What the calls of jobs that were run have cost, and the closed ledger beside what is noted of it.
use Rattle.std.proofs.Common.{◌≡◌, ℕ, zero, suc, ◌<◌, All, Bool, true, false, List, [], ◌∷◌, ◌++◌, append-nil, append_assoc, length, get_or, map, refl, sym, ap, subst, ◌∙◌, arith, Option, Some, None, Result, Ok, Err, Vec}
use Rattle.at_commands.proofs.Prelude.{Global, IfOk, AllocError, is_some, get_or-map, AllZip-get_or, AllZip-long, AllZip, BoardTerms, calls_in, contents_of, Coherent, IsPlayable, Legal-journal_lines, Whole-journal_lines, BookTerms, has_single, with_usable_room, IsBegun, Call, ClosedTerms, IsNewPass, PassTerms, PastCall, Receipt, map-append, others_counted, past_call, past_costs, AreCosts, AreJobsFor, HaveCosted, IsClosedAfter, IsClosedNoting, IsPlayed, IsPlayedNoting, TakesNewPass, costs_in, journal_of, AddUp, AddUp-TakeCalls, CostTerms, TakeCalls, cost_so_far, sum_of_costs, JobTerms, Ran}
use Rattle.std.specs.Prelude.{IfSome, if◌then◌else◌}
use Rattle.at_commands.proofs.JobsMade.{passes_in}
use Rattle.at_commands.proofs.JobsRun.{IsPlayed-journal, receipts_in}

abbrev AreNoting : List JobTerms → Type 0
AreNoting jobs = All (λ (job : JobTerms). is_some job.costs ≡ true) jobs

noted : (costs : Option (List CostTerms)) (list : List CostTerms) → is_some costs ≡ true → IfSome costs (λ l. l ≡ list) → costs ≡ Some list
noted None list is are = absurd (cc is)
noted (Some costs) list is are = ap Some are

-- a job, where there is one
some_job : (jobs : List JobTerms) (p : ℕ) → p < length jobs → JobTerms
some_job [] p within = absurd (omega (arith, within))
some_job (job ∷ jobs) p within = job

-- of what a new pass has made and counted, what its calls cost
sum_of_costs-new : (ledger : BoardTerms) (process : ℕ) (before after : PassTerms) (costs : List CostTerms) → IsNewPass ledger process before
    → AddUp before after costs → sum_of_costs costs ≡ cost_so_far after
sum_of_costs-new ledger process before after costs new up =
    let steps : (sum_of_costs costs).steps ≡ after.steps = omega (arith, new.steps_are, up.steps) in
    let exchanges : (sum_of_costs costs).exchanges ≡ after.exchanges = omega (arith, new.exchanges_are, up.exchanges) in
    let counted : (sum_of_costs costs).new_records ≡ others_counted after = omega (arith, new.counted_none, up.new_records) in
    rw (steps, exchanges, counted) refl

module _ (ledger : BoardTerms) where
  -- the pass keeps what its calls cost, behind what those before cost
  past_costs-TakeCalls : (before after : PassTerms) (receipts : List Receipt) (costs : List CostTerms)
      → TakeCalls ledger before receipts costs after → past_costs after ≡ past_costs before ++ costs
  unfolding TakeCalls
  past_costs-TakeCalls before after [] [] same = ap past_costs (sym same) ∙ sym (append-nil (past_costs before))
  past_costs-TakeCalls before after [] (c ∷ costs) taken = absurd taken
  past_costs-TakeCalls before after (r ∷ receipts) [] taken = absurd taken
  past_costs-TakeCalls before after (r ∷ receipts) (c ∷ costs) (middle, takes, rest) =
      let cost : PastCall → CostTerms = λ x. x.cost in
      let one_more : past_costs middle ≡ past_costs before ++ c ∷ [] =
      ap (λ (calls : List PastCall). map cost calls) takes.called.past
      ∙ (map-append cost before.past (past_call before middle r ∷ []) ∙ ap (λ (x : CostTerms). past_costs before ++ x ∷ []) (sym takes.cost_is)) in
      past_costs-TakeCalls middle after receipts costs rest
      ∙ (ap (λ (l : List CostTerms). l ++ costs) one_more ∙ append_assoc (past_costs before) (c ∷ []) costs)

  -- what the calls of jobs cost, where it is noted and where it isn't
  abbrev costs_ran : (before after : List JobTerms) → AllZip (Ran ledger) before after → List (List CostTerms)
  costs_ran [] after ran = []
  costs_ran (job ∷ before) [] ran = []
  costs_ran (job ∷ before) (made ∷ after) ran = ran.0.costs ∷ costs_ran before after ran.1

  length-costs_ran : (before after : List JobTerms) (ran : AllZip (Ran ledger) before after) → length (costs_ran before after ran) ≡ length before
  length-costs_ran [] after ran = refl
  length-costs_ran (job ∷ before) [] ran = absurd ran
  length-costs_ran (job ∷ before) (made ∷ after) ran = ap suc (length-costs_ran before after ran.1)

  taken_ran : (before after : List JobTerms) (ran : AllZip (Ran ledger) before after) (p : ℕ) (d : JobTerms) → p < length before
      → TakeCalls ledger (get_or before p d).pass (get_or after p d).receipts (get_or (costs_ran before after ran) p []) (get_or after p d).pass
  taken_ran [] after ran p d within = absurd (omega (arith, within))
  taken_ran (job ∷ before) [] ran p d within = absurd ran
  taken_ran (job ∷ before) (made ∷ after) ran zero d within = ran.0.taken
  taken_ran (job ∷ before) (made ∷ after) ran (suc p) d within = taken_ran before after ran.1 p d (omega (arith, within))

  noted_ran : (before after : List JobTerms) (ran : AllZip (Ran ledger) before after) → AreNoting after → costs_in after ≡ costs_ran before after ran
  noted_ran [] [] ran noting = refl
  noted_ran [] (made ∷ after) ran noting = absurd ran
  noted_ran (job ∷ before) [] ran noting = absurd ran
  noted_ran (job ∷ before) (made ∷ after) ran noting =
      rw (noted made.costs ran.0.costs (noting 0 made (omega arith)) ran.0.noted)
      (ap (λ (l : List (List CostTerms)). ran.0.costs ∷ l) (noted_ran before after ran.1 (λ i d within. noting (suc i) d (omega (arith, within)))))

  -- the calls of all jobs have taken their new passes, at these costs
  AreCosts-ran : (files : List (List Call)) (notes : Bool) (before after : List JobTerms) → AreJobsFor ledger files notes before
      → (ran : AllZip (Ran ledger) before after) → AreCosts ledger (passes_in after) (receipts_in after) (costs_ran before after ran)
  AreCosts-ran files notes before after jobs ran =
      let count : length after ≡ ledger.book.processes = AllZip-long (Ran ledger) before after ran ∙ jobs.count in
      record {
        count = length-costs_ran before after ran ∙ jobs.count;
        each = λ p below.
            let within : p < length before = omega (arith, below, jobs.count) in
            let here : p < length after = omega (arith, below, count) in
            let none : JobTerms = some_job after p here in
            let first : PassTerms = (get_or before p none).pass in
            let last : PassTerms = (get_or after p none).pass in
            let list : List CostTerms = get_or (costs_ran before after ran) p [] in
            let taken = taken_ran before after ran p none within in
            let new : IsNewPass ledger p first = jobs.new p none within in
            subst (λ rs. TakesNewPass ledger (passes_in after) p rs list) (sym (get_or-map (λ (job : JobTerms). job.receipts) after p none [] here)) (record {
              before = first;
              after = last;
              is_new = new;
              is_left = λ d. get_or-map (λ (job : JobTerms). job.pass) after p none d here;
              taken = taken;
              past_are = past_costs-TakeCalls first last (get_or after p none).receipts list taken
                  ∙ ap (λ (calls : List PastCall). map (λ (x : PastCall). x.cost) calls ++ list) new.past_none;
              add_up = sum_of_costs-new ledger p first last list new (AddUp-TakeCalls ledger first last (get_or after p none).receipts list taken);
            });
      }

  -- and what they have noted is that, where they were made to
  pub HaveCosted-ran : (files : List (List Call)) (notes : Bool) (before after : List JobTerms) → AreJobsFor ledger files notes before
      → AllZip (Ran ledger) before after → HaveCosted ledger notes (passes_in after) (receipts_in after) (costs_in after)
  HaveCosted-ran files notes before after jobs ran = record {
    costs = costs_ran before after ran;
    are = AreCosts-ran files notes before after jobs ran;
    noted_are = λ noting.
        let long : length after ≡ length before = AllZip-long (Ran ledger) before after ran in
        noted_ran before after ran (λ p d within.
        let inside : p < length before = omega (arith, within, long) in
        (AllZip-get_or (Ran ledger) before after p d d ran inside).notes ∙ (jobs.noting p d inside ∙ noting));
  }

-- own room that can be used is all used
with_usable_room-twice : (b : BookTerms) → with_usable_room (with_usable_room b) ≡ with_usable_room b
with_usable_room-twice b = ap (λ n. record b { own_room = n }) (twice (has_single b) b.own_room) where
  twice : (x : Bool) (n : ℕ) → (if x then (if x then n else 1) else 1) ≡ (if x then n else 1)
  twice true n = refl
  twice false n = refl

-- a ledger of the book with the own room that can be used, which is closed as one of the whole book
pub IsClosedAfter-whole : (b : BookTerms) (files : List (List Call)) (closed whole : ClosedTerms) → IsClosedAfter (with_usable_room b) files closed
    → whole ≡ record closed { book = b } → Coherent whole.book whole.closing → IsClosedAfter b files whole
IsClosedAfter-whole b files closed whole run is coherent = record {
  book_is = ap (λ (t : ClosedTerms). t.book) is;
  usable = ap (λ (t : ClosedTerms). with_usable_room t.ledger.book) is ∙ (run.usable ∙ with_usable_room-twice b);
  calls_are = ap (λ (t : ClosedTerms). calls_in t.closing) is ∙ run.calls_are;
  costs = run.costs;
  costed = subst (λ (t : ClosedTerms). AreCosts t.ledger t.passes t.closing.receipts run.costs) (sym is) run.costed;
  coherent = coherent;
}

-- the closed ledger's journal is one legal run of the files' calls, whether its lines are made or not
pub IsPlayed-closed : (b : BookTerms) (files : List (List Call)) (closed : ClosedTerms) → IsBegun b → length files ≡ b.processes
    → All (IsPlayable (length b.accounts)) files → IsClosedAfter b files closed → IsPlayed b files closed (journal_of closed)
IsPlayed-closed b files closed begun count known run =
    let begins : IsBegun closed.book = subst IsBegun (sym run.book_is) begun in
    IsPlayed-journal b files closed (journal_of closed) run count known refl (Whole-journal_lines closed.book closed.closing run.coherent)
    (Legal-journal_lines closed.book closed.closing run.coherent begins)

pub IfOk-noting : (b : BookTerms) (files : List (List Call)) (left : Result (ClosedTerms × Vec (Vec CostTerms Global) Global) AllocError) → IsBegun b
    → length files ≡ b.processes → All (IsPlayable (length b.accounts)) files
    → IfOk left (λ r. IsClosedNoting b files true r.0 (contents_of r.1.items)) → IfOk left (λ r. IsPlayedNoting b files r.0 (contents_of r.1.items))
IfOk-noting b files (Ok (closed, costs)) begun count known left = record {
  played = IsPlayed-closed b files closed begun count known left.run;
  ledger_is = left.ledger_is;
  costed = rw (left.costs_are refl) left.run.costed;
}
IfOk-noting b files (Err refusal) begun count known left = tt
