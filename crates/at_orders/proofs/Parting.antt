-- The files of a part: those of its processes, and of the others no calls.
use Rattle.std.proofs.Common.{◌≡◌, ℕ, ◌<◌, ◌≤◌, ⊎_elim, List, [], ◌∷◌, length, get_or, replicate, All, Some, refl, sym, ap, subst, ◌∙◌, arith, eq-eqb}
use Rattle.std.specs.Prelude.{slice_get}
use Rattle.at_orders.proofs.Prelude.{cases_lt, get_or-eq_default, AreAllCountedBefore, AreCountedBefore, get_or_default, ne_eqb, get_or-map-range_with_len, length-map-range_with_len, slice_get_within, BookTerms, LedgerState, opening_state, step, Call, Line, Reply, IsPlayable, IsNextOfProcess, with_made, none_made, OpeningCovers, asked_in_file, sum_below, Comes, files_of_part, part_file, IsStage, StageTerms}
use Rattle.at_orders.proofs.Moved.{at_or_off}
use Rattle.at_orders.proofs.OnTheWay.{AreFiles}
use Rattle.at_orders.proofs.Reaching.{Leads, comes-next, leads-cons, leads-from_cons, leads-nil, leads-from_nil, order-next, reached-stage, stage-reached}
use Rattle.at_orders.proofs.Sums.{sum-up}

pub length-part : (files : List (List Call)) (parts : List ℕ) (k : ℕ) → length (files_of_part files parts k) ≡ length files
unfolding files_of_part
length-part files parts k = length-map-range_with_len (part_file files parts k) 0 (length files)

part-file : (files : List (List Call)) (parts : List ℕ) (k q : ℕ) → q < length files → get_or (files_of_part files parts k) q [] ≡ part_file files parts k q
unfolding files_of_part
part-file files parts k q q_in = get_or-map-range_with_len (part_file files parts k) 0 (length files) q q [] q_in (omega arith)

-- a process of the part has its file, and the others have none
pub own-file : (files : List (List Call)) (parts : List ℕ) (k q : ℕ) → q < length files → get_or parts q 0 ≡ k → get_or (files_of_part files parts k) q [] ≡ get_or files q []
own-file files parts k q q_in own = part-file files parts k q q_in ∙ rw (eq-eqb (get_or parts q 0) k own) refl

pub other-file : (files : List (List Call)) (parts : List ℕ) (k q : ℕ) → q < length files → (get_or parts q 0 ≡ k → ⊥) → get_or (files_of_part files parts k) q [] ≡ []
other-file files parts k q q_in other = part-file files parts k q q_in ∙ rw (ne_eqb (get_or parts q 0) k other) refl

-- what holds of each file and of none holds of each file of the part
pub part-each : (P : List Call → Type 0) (files : List (List Call)) (parts : List ℕ) (k q : ℕ) → q < length files → P (get_or files q []) → P [] → P (get_or (files_of_part files parts k) q [])
part-each P files parts k q q_in is none = at_or_off (get_or parts q 0) k
    (λ own. subst P (sym (own-file files parts k q q_in own)) is)
    (λ other. subst P (sym (other-file files parts k q q_in other)) none)

pub all-part : (P : List Call → Type 0) (files : List (List Call)) (parts : List ℕ) (k : ℕ) → All P files → P [] → All P (files_of_part files parts k)
all-part P files parts k all none q d within =
    let size = length-part files parts k in
    let q_in : q < length files = omega arith in
    let here : get_or (files_of_part files parts k) q [] ≡ get_or (files_of_part files parts k) q d = get_or_default (files_of_part files parts k) q [] d within in
    subst P here (part-each P files parts k q q_in (all q [] q_in) none)

none-playable : (accounts : ℕ) → IsPlayable accounts []
none-playable accounts = record { known = λ i d within. absurd (omega arith); few = omega arith }

pub part-playable : (b : BookTerms) (files : List (List Call)) (parts : List ℕ) (k : ℕ) → AreFiles b files → AreFiles b (files_of_part files parts k)
part-playable b files parts k are =
    record {
      playable = all-part (IsPlayable (length b.accounts)) files parts k are.playable (none-playable (length b.accounts));
      count = length-part files parts k ∙ are.count;
    }

-- a covered account is covered there too
pub part-covers : (b : BookTerms) (files : List (List Call)) (parts : List ℕ) (k a : ℕ) → OpeningCovers b files a → OpeningCovers b (files_of_part files parts k) a
part-covers b files parts k a covered =
    let up = sum-up (length files) (λ (q : ℕ). asked_in_file b q a (get_or (files_of_part files parts k) q [])) (λ (q : ℕ). asked_in_file b q a (get_or files q []))
    (λ q q_in. part-each (λ (calls : List Call). asked_in_file b q a calls ≤ asked_in_file b q a (get_or files q [])) files parts k q q_in (omega arith) (omega arith)) in
    let same : sum_below (length (files_of_part files parts k)) (λ q. asked_in_file b q a (get_or (files_of_part files parts k) q [])) ≡ sum_below (length files) (λ q. asked_in_file b q a (get_or (files_of_part files parts k) q [])) =
    ap (λ (n : ℕ). sum_below n (λ q. asked_in_file b q a (get_or (files_of_part files parts k) q []))) (length-part files parts k) in
    omega arith

-- the next call of a process in the files of a part is its next call in all files, and the process is of the part
pub record IsOfPart (files : List (List Call)) (parts : List ℕ) (k p i : ℕ) (c : Call) : Type 0 where
  pub process : p < length files
  pub part : get_or parts p 0 ≡ k
  pub call : slice_get (get_or files p []) i ≡ Some c

pub call-of_part : (files : List (List Call)) (parts : List ℕ) (k p i : ℕ) (c : Call) → p < length files → slice_get (get_or (files_of_part files parts k) p []) i ≡ Some c → IsOfPart files parts k p i c
call-of_part files parts k p i c p_in is = at_or_off (get_or parts p 0) k
    (λ own. record { process = p_in; part = own; call = subst (λ (calls : List Call). slice_get calls i ≡ Some c) (own-file files parts k p p_in own) is })
    (λ other.
    let within = slice_get_within (get_or (files_of_part files parts k) p []) i c is in
    let none : length (get_or (files_of_part files parts k) p []) ≡ 0 = ap (λ (calls : List Call). length calls) (other-file files parts k p p_in other) in
    absurd (omega arith))

pub next-of_part : (files : List (List Call)) (parts : List ℕ) (k : ℕ) (s : LedgerState) (made : List ℕ) (l : Line) → IsNextOfProcess (files_of_part files parts k) s made l
    → IsOfPart files parts k l.process (get_or made l.process 0) l.call
next-of_part files parts k s made l next =
    call-of_part files parts k l.process (get_or made l.process 0) l.call (let size = length-part files parts k in let h = next.process in omega arith) next.call

next-up : (files : List (List Call)) (parts : List ℕ) (k : ℕ) (s : LedgerState) (made : List ℕ) (l : Line) → IsNextOfProcess (files_of_part files parts k) s made l → IsNextOfProcess files s made l
next-up files parts k s made l next = let of = next-of_part files parts k s made l next in record { process = of.process; number = next.number; call = of.call; reply = next.reply }

leads-up : (files : List (List Call)) (parts : List ℕ) (k : ℕ) (s : LedgerState) (made : List ℕ) (lines : List Line) (t : StageTerms) → Leads (files_of_part files parts k) s made lines t
    → Leads files s made lines t
leads-up files parts k s made [] t leads = let end = leads-nil (files_of_part files parts k) s made t leads in leads-from_nil files s made t end.0 end.1
leads-up files parts k s made (l ∷ lines) t leads =
    let both = leads-cons (files_of_part files parts k) s made l lines t leads in
    leads-from_cons files s made l lines t (next-up files parts k s made l both.0) (leads-up files parts k (step s l.process l.call).ledger (with_made made l.process) lines t both.1)

pub none-part : (files : List (List Call)) (parts : List ℕ) (k : ℕ) → none_made (files_of_part files parts k) ≡ none_made files
none-part files parts k = ap (λ (n : ℕ). replicate n 0) (length-part files parts k)

-- an order of the part is the beginning of one of all calls: the stages of a part are stages
pub stage-up : (b : BookTerms) (files : List (List Call)) (parts : List ℕ) (k : ℕ) (t : StageTerms) → IsStage b (files_of_part files parts k) t → IsStage b files t
stage-up b files parts k t stage =
    let reached = stage-reached b (files_of_part files parts k) t stage in
    reached-stage b files t (record {
      lines = reached.lines;
      leads = subst (λ (m : List ℕ). Leads files (opening_state b) m reached.lines t) (none-part files parts k)
          (leads-up files parts k (opening_state b) (none_made (files_of_part files parts k)) reached.lines t reached.leads);
    })

-- and the replies that come there come
pub comes-up : (b : BookTerms) (files : List (List Call)) (parts : List ℕ) (k p i : ℕ) (y : Reply) → Comes b (files_of_part files parts k) p i y → Comes b files p i y
comes-up b files parts k p i y comes =
    let l : Line = comes.line in
    let at = order-next b (files_of_part files parts k) comes.lines l comes.order comes.stands in
    let up = comes-next b files at.stage l (stage-up b files parts k at.stage at.is) (next-up files parts k at.stage.ledger at.stage.made l at.next) in
    let number : get_or at.stage.made l.process 0 ≡ i = let x = at.next.number in let n = comes.number in omega arith in
    let there : Comes b files l.process i l.reply = subst (λ (n : ℕ). Comes b files l.process n l.reply) number up in
    subst (Comes b files p i) comes.answered (subst (λ (q : ℕ). Comes b files q i l.reply) comes.made_by there)

-- a call of the part: its process is of the part, and has the same file there
pub own-known : (files : List (List Call)) (parts : List ℕ) (k p i : ℕ) → i < length (get_or (files_of_part files parts k) p [])
    → (p < length files) × (get_or (files_of_part files parts k) p [] ≡ get_or files p [])
own-known files parts k p i within = ⊎_elim
    (λ p_in. (
      p_in,
      at_or_off (get_or parts p 0) k
          (λ own. own-file files parts k p p_in own)
          (λ other. let none : length (get_or (files_of_part files parts k) p []) ≡ 0 = ap (λ (calls : List Call). length calls) (other-file files parts k p p_in other) in absurd (omega arith)),
    ))
    (λ past.
    let none : length (get_or (files_of_part files parts k) p []) ≡ 0 =
    ap (λ (calls : List Call). length calls) (get_or-eq_default (files_of_part files parts k) [] (let size = length-part files parts k in omega arith)) in
    absurd (omega arith))
    (cases_lt p (length files))

-- the row of its file
pub record IsRow (files : List (List Call)) (before : List (List ℕ)) (p i : ℕ) : Type 0 where
  pub inside : p < length before
  pub long : i < length (get_or before p [])
  pub counted : AreCountedBefore (get_or files p []) (get_or before p [])

pub row-known : (files own : List (List Call)) (parts : List ℕ) (k : ℕ) (before : List (List ℕ)) (p i : ℕ) → files_of_part files parts k ≡ own → AreAllCountedBefore files before
    → i < length (get_or own p []) → IsRow own before p i
row-known files own parts k before p i is counted within =
    let known = own-known files parts k p i (subst (λ (fs : List (List Call)). i < length (get_or fs p [])) (sym is) within) in
    let file : get_or own p [] ≡ get_or files p [] = ap (λ (fs : List (List Call)). get_or fs p []) (sym is) ∙ known.1 in
    let size = counted.processes in
    let p_in = known.0 in
    let row : AreCountedBefore (get_or own p []) (get_or before p []) = subst (λ (calls : List Call). AreCountedBefore calls (get_or before p [])) (sym file) (counted.each p p_in) in
    let long = row.calls in
    record { inside = omega arith; long = omega arith; counted = row }
