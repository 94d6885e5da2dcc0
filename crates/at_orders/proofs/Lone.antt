-- A part of one process goes through no more stages than it has calls, and one: so no part is too large where the openings cover all.
use Rattle.std.proofs.Common.{◌≡◌, ℕ, zero, suc, ◌+◌, ◌<◌, ◌≤◌, ◌==◌, ◌||◌, Bool, true, false, List, [], ◌∷◌, length, get_or, All, Some, refl, sym, ap, subst, ◌∙◌, arith}
use Rattle.std.specs.Prelude.{slice_get}
use Rattle.at_orders.proofs.Prelude.{IsDistinct-from_apart, length-le_from_distinct_below, list_any, ne_eqb, Decides-eqb, BookTerms, LedgerState, opening_state, step, Call, Line, AreWithinFiles, AreWithinFiles-none, AreWithinFiles-next, IsNextOfProcess, with_made, none_made, get_or-with_made, OpeningsCover, HasBigPart, files_of_part, HasMoreStages, IsStage, StageTerms}
use Rattle.at_orders.proofs.OnTheWay.{AreFiles}
use Rattle.at_orders.proofs.Parting.{next-of_part, part-playable, stage-up}
use Rattle.at_orders.proofs.Reaching.{Leads, leads-cons, leads-nil, leads-within, stage-ext, stage-reached}

-- all next calls are of one process
abbrev IsLone : List (List Call) → Type 0
IsLone files = (s u : LedgerState) (made more : List ℕ) (l m : Line) → IsNextOfProcess files s made l → IsNextOfProcess files u more m → l.process ≡ m.process

-- as many lines lead to the same stage
leads-same : (files : List (List Call)) (s : LedgerState) (made : List ℕ) (xs ys : List Line) (t u : StageTerms) → IsLone files → length xs ≡ length ys → Leads files s made xs t → Leads files s made ys u → t ≡ u
leads-same files s made [] [] t u lone same first second =
    let a = leads-nil files s made t first in
    let b = leads-nil files s made u second in
    stage-ext t u (sym a.1 ∙ b.1) (sym a.0 ∙ b.0)
leads-same files s made [] (y ∷ ys) t u lone same first second = absurd (omega arith)
leads-same files s made (x ∷ xs) [] t u lone same first second = absurd (omega arith)
leads-same files s made (x ∷ xs) (y ∷ ys) t u lone same first second =
    let a = leads-cons files s made x xs t first in
    let b = leads-cons files s made y ys u second in
    let process : y.process ≡ x.process = lone s s made made y x b.0 a.0 in
    let there : slice_get (get_or files x.process []) (get_or made x.process 0) ≡ Some y.call =
    subst (λ (q : ℕ). slice_get (get_or files q []) (get_or made q 0) ≡ Some y.call) process b.0.call in
    let here = a.0.call in
    let calls : y.call ≡ x.call = cc in
    let rest : Leads files (step s x.process x.call).ledger (with_made made x.process) ys u =
    subst (λ (d : Call). Leads files (step s x.process d).ledger (with_made made x.process) ys u) calls
    (subst (λ (q : ℕ). Leads files (step s q y.call).ledger (with_made made q) ys u) process b.1) in
    leads-same files (step s x.process x.call).ledger (with_made made x.process) xs ys t u lone (omega arith) a.1 rest

-- they are no more than the calls of the process
leads-count : (files : List (List Call)) (p : ℕ) (s : LedgerState) (made : List ℕ) (lines : List Line) (t : StageTerms) → AreWithinFiles files made
    → ((u : LedgerState) (more : List ℕ) (l : Line) → IsNextOfProcess files u more l → l.process ≡ p) → Leads files s made lines t → get_or t.made p 0 ≡ get_or made p 0 + length lines
leads-count files p s made [] t within only leads = let same = ap (λ (m : List ℕ). get_or m p 0) (leads-nil files s made t leads).1 in omega arith
leads-count files p s made (l ∷ lines) t within only leads =
    let both = leads-cons files s made l lines t leads in
    let process = only s made l both.0 in
    let p_in : p < length made = let each = within.each in let h = both.0.process in omega arith in
    let rest = leads-count files p (step s l.process l.call).ledger (with_made made l.process) lines t (AreWithinFiles-next files s made l within both.0) only both.1 in
    let here : get_or (with_made made l.process) p 0 ≡ get_or (with_made made p) p 0 = ap (λ (q : ℕ). get_or (with_made made q) p 0) process in
    let more = get_or-with_made made p p_in in
    omega arith

few-lines : (b : BookTerms) (files : List (List Call)) (lines : List Line) (t : StageTerms) → AreFiles b files → IsLone files → Leads files (opening_state b) (none_made files) lines t → length lines < 16385
few-lines b files [] t are lone leads = omega arith
few-lines b files (l ∷ lines) t are lone leads =
    let p : ℕ = l.process in
    let first = leads-cons files (opening_state b) (none_made files) l lines t leads in
    let within = AreWithinFiles-none files in
    let count = leads-count files p (opening_state b) (none_made files) (l ∷ lines) t within (λ u more m next. lone u (opening_state b) more (none_made files) m l next first.0) leads in
    let all = (leads-within files (opening_state b) (none_made files) (l ∷ lines) t within leads).within p first.0.process in
    let few = (are.playable p [] first.0.process).few in
    omega arith

-- a number for each stage: how many lines lead to it
record IsNumber (b : BookTerms) (files : List (List Call)) (t : StageTerms) (n : ℕ) : Type 0 where
  lines : List Line
  leads : Leads files (opening_state b) (none_made files) lines t
  is : length lines ≡ n

record AreNumbers (b : BookTerms) (files : List (List Call)) (stages : List StageTerms) : Type 0 where
  list : List ℕ
  size : length list ≡ length stages
  each : (i : ℕ) (t : StageTerms) (n : ℕ) → i < length stages → IsNumber b files (get_or stages i t) (get_or list i n)

numbers : (b : BookTerms) (files : List (List Call)) (stages : List StageTerms) → All (IsStage b files) stages → AreNumbers b files stages
numbers b files [] all = record { list = []; size = refl; each = λ i t n within. absurd (omega arith) }
numbers b files (t ∷ stages) all =
    let reached = stage-reached b files t (all 0 t (omega arith)) in
    let rest = numbers b files stages (λ i d within. all (suc i) d (omega arith)) in
    record {
      list = length reached.lines ∷ rest.list;
      size = let size = rest.size in omega arith;
      each = each (length reached.lines) (record { lines = reached.lines; leads = reached.leads; is = refl }) rest;
    }
  where
    each : (k : ℕ) → IsNumber b files t k → (rest : AreNumbers b files stages) → (i : ℕ) (d : StageTerms) (n : ℕ) → i < length (t ∷ stages) → IsNumber b files (get_or (t ∷ stages) i d) (get_or (k ∷ rest.list) i n)
    each k here rest zero d n within = here
    each k here rest (suc i) d n within = rest.each i d n (omega arith)

-- numbers that are among these
listed : (q : ℕ) (ns : List ℕ) → list_any (λ n. q == n) ns ≡ true → (i : ℕ) × (i < length ns) × (get_or ns i 0 ≡ q)
listed q [] is = absurd (let wrong : false ≡ true = is in cc)
listed q (n ∷ ns) is = by (q == n) refl (listed q ns)
  where
    by : (t : Bool) → (q == n) ≡ t → (list_any (λ m. q == m) ns ≡ true → (i : ℕ) × (i < length ns) × (get_or ns i 0 ≡ q)) → (i : ℕ) × (i < length (n ∷ ns)) × (get_or (n ∷ ns) i 0 ≡ q)
    by true e later = (0, omega arith, sym ((Decides-eqb q n).0 e))
    by false e later = let rest = later (sym (ap (λ (t : Bool). t || list_any (λ m. q == m) ns) e) ∙ is) in (suc rest.0, omega arith, rest.2)

few-stages : (b : BookTerms) (files : List (List Call)) → AreFiles b files → IsLone files → HasMoreStages b files 1048576 → ⊥
few-stages b files are lone more =
    let of = numbers b files more.stages more.are in
    let size = of.size in
    let all = more.more in
    let few : length of.list ≤ 16385 = length-le_from_distinct_below of.list 16385
    (IsDistinct-from_apart (λ (x y : ℕ). x == y) of.list (λ i j n less within. ne_eqb (get_or of.list i n) (get_or of.list j n) (λ same.
    let d : StageTerms = record { made = []; ledger = opening_state b } in
    let x = of.each i d n (omega arith) in
    let y = of.each j d n (omega arith) in
    more.apart i j d less (omega arith) (leads-same files (opening_state b) (none_made files) x.lines y.lines (get_or more.stages i d) (get_or more.stages j d) lone (x.is ∙ (same ∙ sym y.is)) x.leads y.leads))))
    (λ q is.
    let at = listed q of.list is in
    let d : StageTerms = record { made = []; ledger = opening_state b } in
    let x = of.each at.0 d 0 (let h = at.1 in omega arith) in
    let few = few-lines b files x.lines (get_or more.stages at.0 d) are lone x.leads in
    let n = x.is in
    let same = at.2 in
    omega arith) in
    omega arith

-- where the openings cover all that the files ask, no two processes are of one part
pub covered-few : (b : BookTerms) (files : List (List Call)) → AreFiles b files → OpeningsCover b files → HasBigPart b files 1048576 → ⊥
covered-few b files are covered big =
    few-stages b (files_of_part files big.parts big.part) (part-playable b files big.parts big.part are) (λ s u made more l m first second.
    let x = next-of_part files big.parts big.part s made l first in
    let y = next-of_part files big.parts big.part u more m second in
    big.are.together l.process m.process x.process y.process (x.part ∙ sym y.part) (λ (q : ℕ). q)
    (λ p q p_in q_in meet. absurd (meet.uncovered (covered meet.account meet.within)))) big.more

-- the stages of a part are stages
pub big-many : (b : BookTerms) (files : List (List Call)) (most : ℕ) → HasBigPart b files most → HasMoreStages b files most
big-many b files most big = record {
  stages = big.more.stages;
  are = λ i d within. stage-up b files big.parts big.part (get_or big.more.stages i d) (big.more.are i d within);
  apart = big.more.apart;
  more = big.more.more;
}
