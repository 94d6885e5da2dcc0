-- Lines that lead to a stage: the stages of orders are those that lines lead to, and their next replies are those that come.
use Rattle.std.proofs.Common.{◌≡◌, ℕ, zero, suc, ◌+◌, ◌<◌, ◌==◌, Bool, true, false, List, [], ◌∷◌, ◌++◌, length, get_or, Contains, refl, sym, ap, subst, ◌∙◌, arith}
use Rattle.at_orders.proofs.Prelude.{Decides-eqb, ext_get_or, get_or-replicate, length-replicate, length-set, Contains-append_right, Contains-get_or, BookTerms, LedgerState, opening_state, step, Run, asked_in, lines_of, run_from, Call, Line, run_from-cons, run_from-nil, AreWithinFiles, IsNextOfProcess, with_made, AreWithinFiles-none, Continues, Completes, completes, continues-cons, continues-from_cons, continues-whole, none_made, whole-continues, AreWithinFiles-next, get_or-with_made, get_or-with_made_other, Comes, IsOrder, IsStage, StageTerms, stage_after}

-- each line is the next one at its state, and then there is this stage
unfoldable pub Leads : List (List Call) → LedgerState → List ℕ → List Line → StageTerms → Type 0
Leads files s made [] t = (s ≡ t.ledger) × (made ≡ t.made)
Leads files s made (l ∷ lines) t = IsNextOfProcess files s made l × Leads files (step s l.process l.call).ledger (with_made made l.process) lines t

-- a stage is its counts and its ledger
pub stage-ext : (t u : StageTerms) → t.made ≡ u.made → t.ledger ≡ u.ledger → t ≡ u
stage-ext t u made ledger i = record { made = made i; ledger = ledger i }

pub leads-nil : (files : List (List Call)) (s : LedgerState) (made : List ℕ) (t : StageTerms) → Leads files s made [] t → (s ≡ t.ledger) × (made ≡ t.made)
unfolding Leads
leads-nil files s made t leads = leads

pub leads-cons : (files : List (List Call)) (s : LedgerState) (made : List ℕ) (l : Line) (lines : List Line) (t : StageTerms) → Leads files s made (l ∷ lines) t
    → IsNextOfProcess files s made l × Leads files (step s l.process l.call).ledger (with_made made l.process) lines t
unfolding Leads
leads-cons files s made l lines t leads = leads

pub leads-from_nil : (files : List (List Call)) (s : LedgerState) (made : List ℕ) (t : StageTerms) → s ≡ t.ledger → made ≡ t.made → Leads files s made [] t
unfolding Leads
leads-from_nil files s made t ledger counts = (ledger, counts)

pub leads-from_cons : (files : List (List Call)) (s : LedgerState) (made : List ℕ) (l : Line) (lines : List Line) (t : StageTerms) → IsNextOfProcess files s made l
    → Leads files (step s l.process l.call).ledger (with_made made l.process) lines t → Leads files s made (l ∷ lines) t
unfolding Leads
leads-from_cons files s made l lines t next rest = (next, rest)

-- one more line
leads-push : (files : List (List Call)) (s : LedgerState) (made : List ℕ) (lines : List Line) (t : StageTerms) (l : Line) → Leads files s made lines t
    → IsNextOfProcess files t.ledger t.made l → Leads files s made (lines ++ l ∷ []) (stage_after t l.process l.call)
unfolding Leads
leads-push files s made [] t l leads next = (
  subst (λ (u : LedgerState). IsNextOfProcess files u made l) (sym leads.0) (subst (λ (m : List ℕ). IsNextOfProcess files t.ledger m l) (sym leads.1) next),
  (ap (λ (u : LedgerState). (step u l.process l.call).ledger) leads.0, ap (λ (m : List ℕ). with_made m l.process) leads.1),
)
leads-push files s made (x ∷ lines) t l leads next = (leads.0, leads-push files (step s x.process x.call).ledger (with_made made x.process) lines t l leads.1 next)

-- lines that go on from the stage
leads-continue : (files : List (List Call)) (s : LedgerState) (made : List ℕ) (xs ys : List Line) (t : StageTerms) → Leads files s made xs t
    → Continues files t.ledger t.made ys → Continues files s made (xs ++ ys)
unfolding Leads
leads-continue files s made [] ys t leads on =
    subst (λ (u : LedgerState). Continues files u made ys) (sym leads.0) (subst (λ (m : List ℕ). Continues files t.ledger m ys) (sym leads.1) on)
leads-continue files s made (x ∷ xs) ys t leads on =
    continues-from_cons files s made x (xs ++ ys) leads.0 (leads-continue files (step s x.process x.call).ledger (with_made made x.process) xs ys t leads.1 on)

-- a list that goes on, in two parts
record Parts (files : List (List Call)) (s : LedgerState) (made : List ℕ) (xs : List Line) : Type 0 where
  stage : StageTerms
  leads : Leads files s made xs stage

continues-split : (files : List (List Call)) (s : LedgerState) (made : List ℕ) (xs ys : List Line) → Continues files s made (xs ++ ys) → Parts files s made xs
unfolding Leads
continues-split files s made [] ys on = record { stage = record { made = made; ledger = s }; leads = (refl, refl) }
continues-split files s made (x ∷ xs) ys on =
    let parts = continues-cons files s made x (xs ++ ys) on in
    let rest = continues-split files (step s x.process x.call).ledger (with_made made x.process) xs ys parts.1 in
    record { stage = rest.stage; leads = (parts.0, rest.leads) }

-- a line of a list that goes on is the next one at some stage
record Meets (files : List (List Call)) (s : LedgerState) (made : List ℕ) (l : Line) : Type 0 where
  before : List Line
  stage : StageTerms
  leads : Leads files s made before stage
  next : IsNextOfProcess files stage.ledger stage.made l

meets : (files : List (List Call)) (s : LedgerState) (made : List ℕ) (lines : List Line) (l : Line) (k : ℕ) → k < length lines → get_or lines k l ≡ l
    → Continues files s made lines → Meets files s made l
unfolding Leads
meets files s made [] l k within is on = absurd (omega arith)
meets files s made (x ∷ lines) l zero within is on =
    let parts = continues-cons files s made x lines on in
    record { before = []; stage = record { made = made; ledger = s }; leads = (refl, refl); next = subst (λ (m : Line). IsNextOfProcess files s made m) is parts.0 }
meets files s made (x ∷ lines) l (suc k) within is on =
    let parts = continues-cons files s made x lines on in
    let rest = meets files (step s x.process x.call).ledger (with_made made x.process) lines l k (omega arith) is parts.1 in
    record { before = x ∷ rest.before; stage = rest.stage; leads = (parts.0, rest.leads); next = rest.next }

-- no file is left behind
pub leads-within : (files : List (List Call)) (s : LedgerState) (made : List ℕ) (lines : List Line) (t : StageTerms) → AreWithinFiles files made → Leads files s made lines t → AreWithinFiles files t.made
unfolding Leads
leads-within files s made [] t are leads = subst (λ (m : List ℕ). AreWithinFiles files m) leads.1 are
leads-within files s made (x ∷ lines) t are leads =
    leads-within files (step s x.process x.call).ledger (with_made made x.process) lines t (AreWithinFiles-next files s made x are leads.0) leads.1

-- the counts are those of the lines
leads-made : (files : List (List Call)) (s : LedgerState) (made : List ℕ) (lines : List Line) (t : StageTerms) → length made ≡ length files → Leads files s made lines t
    → (p : ℕ) → p < length files → get_or t.made p 0 ≡ get_or made p 0 + length (lines_of p lines)
unfolding Leads
leads-made files s made [] t each leads p within = let same : get_or made p 0 ≡ get_or t.made p 0 = ap (λ (m : List ℕ). get_or m p 0) leads.1 in omega arith
leads-made files s made (x ∷ lines) t each leads p within =
    by (x.process == p) refl (leads-made files (step s x.process x.call).ledger (with_made made x.process) lines t (length-set made x.process (get_or made x.process 0 + 1) ∙ each) leads.1 p within)
  where
    by : (own : Bool) → (x.process == p) ≡ own → get_or t.made p 0 ≡ get_or (with_made made x.process) p 0 + length (lines_of p lines)
        → get_or t.made p 0 ≡ get_or made p 0 + length (lines_of p (x ∷ lines))
    by true is later =
        let same : x.process ≡ p = (Decides-eqb x.process p).0 is in
        let more = get_or-with_made made p (omega arith) in
        let here : get_or (with_made made x.process) p 0 ≡ get_or (with_made made p) p 0 = ap (λ (q : ℕ). get_or (with_made made q) p 0) same in
        rw is (omega arith)
    by false is later =
        let other = get_or-with_made_other made x.process p (λ same. let wrong = (Decides-eqb x.process p).1 same in cc) in
        rw is (omega arith)

-- the ledger is that after the lines
leads-ledger : (files : List (List Call)) (s : LedgerState) (made : List ℕ) (lines : List Line) (t : StageTerms) → Leads files s made lines t
    → t.ledger ≡ (run_from s (asked_in lines)).last
unfolding Leads
leads-ledger files s made [] t leads = sym leads.0 ∙ sym (ap (λ (r : Run). r.last) (run_from-nil s))
leads-ledger files s made (x ∷ lines) t leads =
    leads-ledger files (step s x.process x.call).ledger (with_made made x.process) lines t leads.1
    ∙ sym (ap (λ (r : Run). r.last) (run_from-cons s (x.process, x.call) (asked_in lines)))

-- some lines lead to it from the openings
pub record IsReached (b : BookTerms) (files : List (List Call)) (t : StageTerms) : Type 0 where
  pub lines : List Line
  pub leads : Leads files (opening_state b) (none_made files) lines t

pub reached-within : (b : BookTerms) (files : List (List Call)) (t : StageTerms) → IsReached b files t → AreWithinFiles files t.made
reached-within b files t reached = leads-within files (opening_state b) (none_made files) reached.lines t (AreWithinFiles-none files) reached.leads

order-from : (b : BookTerms) (files : List (List Call)) (xs ys : List Line) (t : StageTerms) → Leads files (opening_state b) (none_made files) xs t
    → Continues files t.ledger t.made ys → IsOrder b files (xs ++ ys)
order-from b files xs ys t leads on =
    let both = whole-continues b files (xs ++ ys) (leads-continue files (opening_state b) (none_made files) xs ys t leads on) in
    record { legal = both.0; whole = both.1 }

-- such a stage is one of an order
pub reached-stage : (b : BookTerms) (files : List (List Call)) (t : StageTerms) → IsReached b files t → IsStage b files t
reached-stage b files t reached =
    let within = reached-within b files t reached in
    let rest : Completes files t.ledger t.made = completes files t.ledger t.made within in
    record {
      before = reached.lines;
      after = rest.lines;
      order = order-from b files reached.lines rest.lines t reached.leads rest.continues;
      counts = within.each;
      made = λ p h.
          let none : get_or (none_made files) p 0 ≡ 0 = get_or-replicate (length files) p 0 0 h in
          let all = leads-made files (opening_state b) (none_made files) reached.lines t (length-replicate (length files) 0) reached.leads p h in
          omega arith;
      ledger = leads-ledger files (opening_state b) (none_made files) reached.lines t reached.leads;
    }

-- and each stage of an order is such a one
pub stage-reached : (b : BookTerms) (files : List (List Call)) (t : StageTerms) → IsStage b files t → IsReached b files t
stage-reached b files t stage =
    let on = continues-whole b files (stage.before ++ stage.after) stage.order.legal stage.order.whole in
    let parts = continues-split files (opening_state b) (none_made files) stage.before stage.after on in
    let within = leads-within files (opening_state b) (none_made files) stage.before parts.stage (AreWithinFiles-none files) parts.leads in
    let size : length parts.stage.made ≡ length t.made = within.each ∙ sym stage.counts in
    let made : parts.stage.made ≡ t.made = ext_get_or 0 parts.stage.made t.made size (λ p h.
    let known : p < length files = let each = within.each in omega arith in
    let none : get_or (none_made files) p 0 ≡ 0 = get_or-replicate (length files) p 0 0 known in
    let all = leads-made files (opening_state b) (none_made files) stage.before parts.stage (length-replicate (length files) 0) parts.leads p known in
    let counted = stage.made p known in
    omega arith) in
    let ledger : parts.stage.ledger ≡ t.ledger = leads-ledger files (opening_state b) (none_made files) stage.before parts.stage parts.leads ∙ sym stage.ledger in
    record {
      lines = stage.before;
      leads = subst (Leads files (opening_state b) (none_made files) stage.before) (stage-ext parts.stage t made ledger) parts.leads;
    }

-- the stage after the next line
pub stage-next : (b : BookTerms) (files : List (List Call)) (t : StageTerms) (l : Line) → IsStage b files t → IsNextOfProcess files t.ledger t.made l
    → IsStage b files (stage_after t l.process l.call)
stage-next b files t l stage next =
    let reached = stage-reached b files t stage in
    reached-stage b files (stage_after t l.process l.call) (record {
      lines = reached.lines ++ l ∷ [];
      leads = leads-push files (opening_state b) (none_made files) reached.lines t l reached.leads next;
    })

-- the reply of a next line comes
pub comes-next : (b : BookTerms) (files : List (List Call)) (t : StageTerms) (l : Line) → IsStage b files t → IsNextOfProcess files t.ledger t.made l
    → Comes b files l.process (get_or t.made l.process 0) l.reply
comes-next b files t l stage next =
    let reached = stage-reached b files t stage in
    let after = AreWithinFiles-next files t.ledger t.made l (reached-within b files t reached) next in
    let rest : Completes files (step t.ledger l.process l.call).ledger (with_made t.made l.process) = completes files (step t.ledger l.process l.call).ledger (with_made t.made l.process) after in
    record {
      lines = reached.lines ++ l ∷ rest.lines;
      order = order-from b files reached.lines (l ∷ rest.lines) t reached.leads (continues-from_cons files t.ledger t.made l rest.lines next rest.continues);
      line = l;
      stands = Contains-append_right reached.lines (l ∷ rest.lines) l (Contains-get_or (l ∷ rest.lines) 0 l (omega arith));
      made_by = refl;
      number = next.number;
      answered = refl;
    }

-- a reply that comes is that of a next line at a stage
pub record ComesAt (b : BookTerms) (files : List (List Call)) (l : Line) : Type 0 where
  pub stage : StageTerms
  pub is : IsStage b files stage
  pub next : IsNextOfProcess files stage.ledger stage.made l

pub order-next : (b : BookTerms) (files : List (List Call)) (lines : List Line) (l : Line) → IsOrder b files lines → Contains lines l → ComesAt b files l
order-next b files lines l order stands =
    let met = meets files (opening_state b) (none_made files) lines l stands.0 stands.1 stands.2 (continues-whole b files lines order.legal order.whole) in
    record { stage = met.stage; is = reached-stage b files met.stage (record { lines = met.before; leads = met.leads }); next = met.next }

pub leads-start : (files : List (List Call)) (s : LedgerState) (made : List ℕ) → Leads files s made [] (record { made = made; ledger = s })
unfolding Leads
leads-start files s made = (refl, refl)
