-- Lists of lines that go on from a state: they are the legal and whole ones.
use Rattle.std.proofs.Common.{◌≡◌, ℕ, zero, suc, ◌+◌, ◌-◌, ◌<◌, ◌==◌, true, false, ⊎_elim, List, [], ◌∷◌, length, drop, get_or, map, replicate, sum, sum_by, All, Some, refl, sym, ap, ◌∙◌, arith, add-one, eq-eqb}
use Rattle.std.specs.Prelude.{slice_get}
use Rattle.at_ledger.proofs.Prelude.{range_with_len, cases_Bool, Decides-eqb, drop_all, get_or-replicate, length-drop, length-replicate, length-set, All-cons, All-nil, sum_by-replicate, get_or_from_slice_get, slice_get-get_or, slice_get_within, drop-cons, BookTerms, LedgerState, opening_state, step, Legal, Run, Whole, asked_in, lines_of, run_from, Call, Read, Line, AreWithinFiles, IsNextOfProcess, with_made}
use Rattle.at_ledger.proofs.Run.{run_from-cons, run_from-nil}
use Rattle.at_ledger.proofs.Made.{AreAllMade, AreWithinFiles-next, all_made, get_or-with_made, get_or-with_made_other, some_left, sum-all_made, sum-le, sum-with_made}

-- each line is the next one at its state, and at the end all calls are made
unfoldable pub Continues : List (List Call) → LedgerState → List ℕ → List Line → Type 0
Continues files s made [] = AreAllMade files made
Continues files s made (l ∷ lines) = IsNextOfProcess files s made l × Continues files (step s l.process l.call).ledger (with_made made l.process) lines

pub continues-nil : (files : List (List Call)) (s : LedgerState) (made : List ℕ) → Continues files s made [] → AreAllMade files made
unfolding Continues
continues-nil files s made is = is

pub continues-cons : (files : List (List Call)) (s : LedgerState) (made : List ℕ) (l : Line) (lines : List Line) → Continues files s made (l ∷ lines)
    → IsNextOfProcess files s made l × Continues files (step s l.process l.call).ledger (with_made made l.process) lines
unfolding Continues
continues-cons files s made l lines is = is

pub continues-from_nil : (files : List (List Call)) (s : LedgerState) (made : List ℕ) → AreAllMade files made → Continues files s made []
unfolding Continues
continues-from_nil files s made is = is

pub continues-from_cons : (files : List (List Call)) (s : LedgerState) (made : List ℕ) (l : Line) (lines : List Line) → IsNextOfProcess files s made l
    → Continues files (step s l.process l.call).ledger (with_made made l.process) lines → Continues files s made (l ∷ lines)
unfolding Continues
continues-from_cons files s made l lines next later = (next, later)

-- the replies are those of a run from the state
record AreAnswered (s : LedgerState) (lines : List Line) : Type 0 where
  is : map (λ (l : Line). l.reply) lines ≡ (run_from s (asked_in lines)).replies

-- the lines of each process are the calls that it has left, in order
record AreLeft (files : List (List Call)) (made : List ℕ) (lines : List Line) : Type 0 where
  within : All (λ (l : Line). l.process < length files) lines
  calls : (p : ℕ) → p < length files → map (λ (l : Line). l.call) (lines_of p lines) ≡ drop (get_or made p 0) (get_or files p [])
  numbers : (p : ℕ) → p < length files → map (λ (l : Line). l.number) (lines_of p lines) ≡ range_with_len (get_or made p 0 + 1) (length (lines_of p lines))

-- a call that a file has left, and those after it
record IsLeft (calls : List Call) (n : ℕ) (call : Call) (rest : List Call) : Type 0 where
  here : slice_get calls n ≡ Some call
  later : rest ≡ drop (n + 1) calls

left-from : (calls : List Call) (n : ℕ) (call : Call) (rest : List Call) → call ∷ rest ≡ drop n calls → IsLeft calls n call rest
left-from calls n call rest is =
    let count : suc (length rest) ≡ length calls - n = ap (length {A = Call}) is ∙ length-drop n calls in
    let within : n < length calls = omega arith in
    let first = drop-cons calls n call within in
    let same : call ≡ get_or calls n call = cc in
    let others : rest ≡ drop (suc n) calls = cc in
    record { here = slice_get-get_or calls n call within ∙ ap Some (sym same); later = others ∙ ap (λ (k : ℕ). drop k calls) (sym (add-one n)) }

left-drop : (calls : List Call) (n : ℕ) (call : Call) → slice_get calls n ≡ Some call → call ∷ drop (n + 1) calls ≡ drop n calls
left-drop calls n call is =
    let within = slice_get_within calls n call is in
    let same : get_or calls n call ≡ call = get_or_from_slice_get calls n call call is in
    let first = drop-cons calls n call within in
    rw (add-one n) (let others : get_or calls n call ∷ drop (suc n) calls ≡ call ∷ drop (suc n) calls = ap (λ (c : Call). c ∷ drop (suc n) calls) same in sym (first ∙ others))

-- a process is this one or isn't
on_process : {A : Type 0} (q p : ℕ) → ((q == p) ≡ true → A) → ((q == p) ≡ false → A) → A
on_process {A = A} q p own other = ⊎_elim own other (cases_Bool (q == p))

-- the lines of a process, and one of it or of another in cut
lines_of-own : (l : Line) (lines : List Line) (p : ℕ) → (l.process == p) ≡ true → lines_of p (l ∷ lines) ≡ l ∷ lines_of p lines
lines_of-own l lines p is = rw is refl

lines_of-other : (l : Line) (lines : List Line) (p : ℕ) → (l.process == p) ≡ false → lines_of p (l ∷ lines) ≡ lines_of p lines
lines_of-other l lines p is = rw is refl

-- what is left after the first line
replies-tail : (s : LedgerState) (l : Line) (lines : List Line) → AreAnswered s (l ∷ lines) → (l.reply ≡ (step s l.process l.call).reply) × AreAnswered (step s l.process l.call).ledger lines
replies-tail s l lines are =
    let both = are.is ∙ ap (λ (r : Run). r.replies) (run_from-cons s (l.process, l.call) (asked_in lines)) in
    let first : l.reply ≡ (step s l.process l.call).reply = cc in
    let rest : map (λ (m : Line). m.reply) lines ≡ (run_from (step s l.process l.call).ledger (asked_in lines)).replies = cc in
    (first, record { is = rest })

replies-cons : (s : LedgerState) (l : Line) (lines : List Line) → l.reply ≡ (step s l.process l.call).reply → AreAnswered (step s l.process l.call).ledger lines → AreAnswered s (l ∷ lines)
replies-cons s l lines first rest =
    let whole = ap (λ (r : Run). r.replies) (run_from-cons s (l.process, l.call) (asked_in lines)) in
    let later = rest.is in
    record { is = let both : map (λ (m : Line). m.reply) (l ∷ lines) ≡ (step s l.process l.call).reply ∷ (run_from (step s l.process l.call).ledger (asked_in lines)).replies = cc in both ∙ sym whole }

-- a process is another one
not_same : (q p : ℕ) → (q == p) ≡ false → q ≡ p → ⊥
not_same q p is same = let wrong = (Decides-eqb q p).1 same in cc

left-tail : (files : List (List Call)) (made : List ℕ) (l : Line) (lines : List Line) → length made ≡ length files → l.process < length files → AreLeft files made (l ∷ lines)
    → AreLeft files (with_made made l.process) lines
left-tail files made l lines each inside are = record {
  within = λ k d below. are.within (suc k) d (omega arith);
  calls = λ p h. on_process l.process p
      (λ own.
      let same : l.process ≡ p = (Decides-eqb l.process p).0 own in
      let mine = rw (lines_of-own l lines p own) at (are.calls p h) in
      let left = left-from (get_or files p []) (get_or made p 0) l.call (map (λ (m : Line). m.call) (lines_of p lines)) mine in
      let count : get_or (with_made made l.process) p 0 ≡ get_or made p 0 + 1 = rw same (get_or-with_made made p (omega arith)) in
      left.later ∙ ap (λ (n : ℕ). drop n (get_or files p [])) (sym count))
      (λ other.
      let mine = rw (lines_of-other l lines p other) at (are.calls p h) in
      mine ∙ ap (λ (n : ℕ). drop n (get_or files p [])) (sym (get_or-with_made_other made l.process p (not_same l.process p other))));
  numbers = λ p h. on_process l.process p
      (λ own.
      let same : l.process ≡ p = (Decides-eqb l.process p).0 own in
      let mine = rw (lines_of-own l lines p own) at (are.numbers p h) in
      let count : get_or (with_made made l.process) p 0 ≡ get_or made p 0 + 1 = rw same (get_or-with_made made p (omega arith)) in
      let rest : map (λ (m : Line). m.number) (lines_of p lines) ≡ range_with_len (get_or made p 0 + 1 + 1) (length (lines_of p lines)) = cc in
      rest ∙ ap (λ (n : ℕ). range_with_len n (length (lines_of p lines))) (let up : get_or made p 0 + 1 + 1 ≡ get_or (with_made made l.process) p 0 + 1 = omega arith in up))
      (λ other.
      let mine = rw (lines_of-other l lines p other) at (are.numbers p h) in
      mine ∙ ap (λ (n : ℕ). range_with_len (n + 1) (length (lines_of p lines))) (sym (get_or-with_made_other made l.process p (not_same l.process p other))));
}

next-left : (files : List (List Call)) (s : LedgerState) (made : List ℕ) (l : Line) (lines : List Line) → l.process < length files → l.reply ≡ (step s l.process l.call).reply
    → AreLeft files made (l ∷ lines) → IsNextOfProcess files s made l
next-left files s made l lines inside reply are =
    let own : (l.process == l.process) ≡ true = eq-eqb l.process l.process refl in
    let mine = rw (lines_of-own l lines l.process own) at (are.calls l.process inside) in
    let counts = rw (lines_of-own l lines l.process own) at (are.numbers l.process inside) in
    let left = left-from (get_or files l.process []) (get_or made l.process 0) l.call (map (λ (m : Line). m.call) (lines_of l.process lines)) mine in
    record { process = inside; number = let first : l.number ≡ get_or made l.process 0 + 1 = cc in first; call = left.here; reply = reply }

-- the lines that are left go on
continues-from : (files : List (List Call)) (s : LedgerState) (made : List ℕ) (lines : List Line) → length made ≡ length files → AreAnswered s lines → AreLeft files made lines
    → Continues files s made lines
continues-from files s made [] each answered left =
    continues-from_nil files s made (λ p h. let none = ap (length {A = Call}) (left.calls p h) ∙ length-drop (get_or made p 0) (get_or files p []) in omega arith)
continues-from files s made (l ∷ lines) each answered left =
    let inside : l.process < length files = left.within 0 l (omega arith) in
    let parts = replies-tail s l lines answered in
    continues-from_cons files s made l lines (next-left files s made l lines inside parts.0 left)
    (continues-from files (step s l.process l.call).ledger (with_made made l.process) lines (length-set made l.process (get_or made l.process 0 + 1) ∙ each) parts.1
    (left-tail files made l lines each inside left))

record GoesOn (files : List (List Call)) (s : LedgerState) (made : List ℕ) (lines : List Line) : Type 0 where
  answered : AreAnswered s lines
  left : AreLeft files made lines

left-cons : (files : List (List Call)) (s : LedgerState) (made : List ℕ) (l : Line) (lines : List Line) → length made ≡ length files → IsNextOfProcess files s made l
    → AreLeft files (with_made made l.process) lines → AreLeft files made (l ∷ lines)
left-cons files s made l lines each next left = record {
  within = All-cons (λ (m : Line). m.process < length files) l lines next.process left.within;
  calls = λ p h. on_process l.process p
      (λ own.
      let same : l.process ≡ p = (Decides-eqb l.process p).0 own in
      let inside : p < length made = omega arith in
      let here : slice_get (get_or files p []) (get_or made p 0) ≡ Some l.call = rw same at next.call in
      let count : get_or (with_made made l.process) p 0 ≡ get_or made p 0 + 1 = rw same (get_or-with_made made p inside) in
      let rest : map (λ (m : Line). m.call) (lines_of p lines) ≡ drop (get_or made p 0 + 1) (get_or files p []) = left.calls p h ∙ ap (λ (n : ℕ). drop n (get_or files p [])) count in
      rw (lines_of-own l lines p own) (ap (λ (cs : List Call). l.call ∷ cs) rest ∙ left-drop (get_or files p []) (get_or made p 0) l.call here))
      (λ other.
      rw (lines_of-other l lines p other)
      (left.calls p h ∙ ap (λ (n : ℕ). drop n (get_or files p [])) (get_or-with_made_other made l.process p (not_same l.process p other))));
  numbers = λ p h. on_process l.process p
      (λ own.
      let same : l.process ≡ p = (Decides-eqb l.process p).0 own in
      let inside : p < length made = omega arith in
      let number : l.number ≡ get_or made p 0 + 1 = rw same at next.number in
      let count : get_or (with_made made l.process) p 0 + 1 ≡ get_or made p 0 + 1 + 1 = let one : get_or (with_made made l.process) p 0 ≡ get_or made p 0 + 1 = rw same (get_or-with_made made p inside) in omega arith in
      let rest : map (λ (m : Line). m.number) (lines_of p lines) ≡ range_with_len (get_or made p 0 + 1 + 1) (length (lines_of p lines)) =
      left.numbers p h ∙ ap (λ (n : ℕ). range_with_len n (length (lines_of p lines))) count in
      rw (lines_of-own l lines p own) (let both : l.number ∷ map (λ (m : Line). m.number) (lines_of p lines) ≡ (get_or made p 0 + 1) ∷ range_with_len (get_or made p 0 + 1 + 1) (length (lines_of p lines)) = cc in both))
      (λ other.
      rw (lines_of-other l lines p other)
      (left.numbers p h ∙ ap (λ (n : ℕ). range_with_len (n + 1) (length (lines_of p lines))) (get_or-with_made_other made l.process p (not_same l.process p other))));
}

goes_on : (files : List (List Call)) (s : LedgerState) (made : List ℕ) (lines : List Line) → length made ≡ length files → Continues files s made lines → GoesOn files s made lines
goes_on files s made [] each continues =
    let all = continues-nil files s made continues in
    record {
      answered = record { is = rw run_from-nil refl };
      left = record {
        within = All-nil (λ (m : Line). m.process < length files);
        calls = λ p h. sym (drop_all (get_or made p 0) (get_or files p []) (all p h));
        numbers = λ p h. refl;
      };
    }
goes_on files s made (l ∷ lines) each continues =
    let parts = continues-cons files s made l lines continues in
    let later = goes_on files (step s l.process l.call).ledger (with_made made l.process) lines (length-set made l.process (get_or made l.process 0 + 1) ∙ each) parts.1 in
    record {
      answered = replies-cons s l lines parts.0.reply later.answered;
      left = left-cons files s made l lines each parts.0 later.left;
    }

-- no call made
abbrev pub none_made : List (List Call) → List ℕ
none_made files = replicate (length files) 0

pub AreWithinFiles-none : (files : List (List Call)) → AreWithinFiles files (none_made files)
AreWithinFiles-none files = record {
  each = length-replicate (length files) 0;
  within = λ p h. let none : get_or (none_made files) p 0 ≡ 0 = get_or-replicate (length files) p 0 0 h in omega arith;
}

pub sum-none : (files : List (List Call)) → sum (none_made files) ≡ 0
sum-none files = let zeros = sum_by-replicate (λ (n : ℕ). n) (length files) 0 in omega arith

-- the legal and whole lists are those that go on from the openings
pub continues-whole : (b : BookTerms) (files : List (List Call)) (lines : List Line) → Legal b lines → Whole files lines → Continues files (opening_state b) (none_made files) lines
continues-whole b files lines legal whole =
    continues-from files (opening_state b) (none_made files) lines (length-replicate (length files) 0) (record { is = legal }) (record {
      within = whole.within;
      calls = λ p h. whole.calls p h ∙ ap (λ (n : ℕ). drop n (get_or files p [])) (sym (get_or-replicate (length files) p 0 0 h));
      numbers = λ p h. whole.numbers p h ∙ ap (λ (n : ℕ). range_with_len (n + 1) (length (lines_of p lines))) (sym (get_or-replicate (length files) p 0 0 h));
    })

pub whole-continues : (b : BookTerms) (files : List (List Call)) (lines : List Line) → Continues files (opening_state b) (none_made files) lines → Legal b lines × Whole files lines
whole-continues b files lines continues =
    let on = goes_on files (opening_state b) (none_made files) lines (length-replicate (length files) 0) continues in (
      on.answered.is,
      record {
        within = on.left.within;
        calls = λ p h. on.left.calls p h ∙ ap (λ (n : ℕ). drop n (get_or files p [])) (get_or-replicate (length files) p 0 0 h);
        numbers = λ p h. on.left.numbers p h ∙ ap (λ (n : ℕ). range_with_len (n + 1) (length (lines_of p lines))) (get_or-replicate (length files) p 0 0 h);
      },
    )

-- as many lines are left as calls
pub length-continues : (files : List (List Call)) (s : LedgerState) (made : List ℕ) (lines : List Line) → AreWithinFiles files made → Continues files s made lines
    → sum made + length lines ≡ sum_by (length {A = Call}) files
length-continues files s made [] are continues = let all = sum-all_made files made are (continues-nil files s made continues) in omega arith
length-continues files s made (l ∷ lines) are continues =
    let parts = continues-cons files s made l lines continues in
    let later = length-continues files (step s l.process l.call).ledger (with_made made l.process) lines (AreWithinFiles-next files s made l are parts.0) parts.1 in
    let one = sum-with_made made l.process (let each = are.each in let inside = parts.0.process in omega arith) in
    omega arith

-- every state goes on to the end of the files
pub record Completes (files : List (List Call)) (s : LedgerState) (made : List ℕ) : Type 0 where
  pub lines : List Line
  pub continues : Continues files s made lines

completes-by : (k : ℕ) (files : List (List Call)) (s : LedgerState) (made : List ℕ) → AreWithinFiles files made → sum made + k ≡ sum_by (length {A = Call}) files → Completes files s made
completes-by zero files s made are count = record { lines = []; continues = continues-from_nil files s made (all_made files made are (omega arith)) }
completes-by (suc k) files s made are count =
    let left = some_left files made are (omega arith) in
    let p : ℕ = left.process in
    let n : ℕ = get_or made p 0 in
    let call : Call = get_or (get_or files p []) n (Read 0) in
    let l : Line = record { process = p; number = n + 1; call = call; reply = (step s p call).reply } in
    let next : IsNextOfProcess files s made l = record { process = left.is; number = refl; call = slice_get-get_or (get_or files p []) n (Read 0) left.left; reply = refl } in
    let one = sum-with_made made p (let each = are.each in let inside = left.is in omega arith) in
    let later = completes-by k files (step s p call).ledger (with_made made p) (AreWithinFiles-next files s made l are next) (omega arith) in
    record { lines = l ∷ later.lines; continues = continues-from_cons files s made l later.lines next later.continues }

pub completes : (files : List (List Call)) (s : LedgerState) (made : List ℕ) → AreWithinFiles files made → Completes files s made
completes files s made are =
    let le = sum-le files made are in
    completes-by (sum_by (length {A = Call}) files - sum made) files s made are (omega arith)
