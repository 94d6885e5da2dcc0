-- The lines of a closed ledger name accounts of its book.
use Rattle.std.proofs.Common.{◌≡◌, ℕ, ◌<◌, ◌==◌, Bool, true, false, cond, List, [], ◌∷◌, length, map, All, refl, sym, subst, ◌∙◌, eq-eqb, arith}
use Rattle.at_c.proofs.Prelude.{get_or-map, length-map, All-cons, All-head, All-nil, All-tail, BookTerms, IsCallOn, IsLineOn, Whole, lines_of, Call, Line, calls_in, ClosingTerms, Coherent, calls_of, Receipt}
use Rattle.at_c.specs.Given.{AreReceipts}

call-kept : (holds : Call → Type 0) (t : Bool) (l : Line) (rest : List Line)
    → All holds (map (λ (x : Line). x.call) (cond t (l ∷ rest) rest)) → All holds (map (λ (x : Line). x.call) rest)
call-kept holds true l rest all = All-tail holds l.call (map (λ (x : Line). x.call) rest) all
call-kept holds false l rest all = all

call-first : (holds : Call → Type 0) (t : Bool) (l : Line) (rest : List Line) → t ≡ true
    → All holds (map (λ (x : Line). x.call) (cond t (l ∷ rest) rest)) → holds l.call
call-first holds t l rest is all =
    All-head holds l.call (map (λ (x : Line). x.call) rest) (subst (λ u. All holds (map (λ (x : Line). x.call) (cond u (l ∷ rest) rest))) is all)

IsLineOn-each : (accounts processes : ℕ) (lines : List Line) → All (λ l. l.process < processes) lines
    → ((p : ℕ) → p < processes → All (IsCallOn accounts) (map (λ (l : Line). l.call) (lines_of p lines)))
    → All (IsLineOn processes accounts) lines
IsLineOn-each accounts processes [] within each = All-nil (IsLineOn processes accounts)
IsLineOn-each accounts processes (l ∷ lines) within each =
    let below : l.process < processes = All-head (λ (x : Line). x.process < processes) l lines within in
    All-cons (IsLineOn processes accounts) l lines
    (below, call-first (IsCallOn accounts) (l.process == l.process) l (lines_of l.process lines) (eq-eqb l.process l.process refl) (each l.process below))
    (IsLineOn-each accounts processes lines (All-tail (λ (x : Line). x.process < processes) l lines within)
    (λ p inside. call-kept (IsCallOn accounts) (l.process == p) l (lines_of p lines) (each p inside)))

calls-known : (accounts : ℕ) (receipts : List (List Receipt)) → All (AreReceipts accounts) receipts → All (All (IsCallOn accounts)) (map calls_of receipts)
calls-known accounts receipts are p d inside =
    let within : p < length receipts = omega (arith, inside, length-map receipts calls_of) in
    subst (All (IsCallOn accounts)) (sym (get_or-map calls_of receipts p [] d within)) (are p [] within).known

pub IsLineOn-closed : (b : BookTerms) (closing : ClosingTerms) (lines : List Line) → Coherent b closing → Whole (calls_in closing) lines
    → All (AreReceipts (length b.accounts)) closing.receipts → All (IsLineOn b.processes (length b.accounts)) lines
IsLineOn-closed b closing lines coherent whole are =
    let count : length (calls_in closing) ≡ b.processes = length-map closing.receipts calls_of ∙ coherent.receipts in
    IsLineOn-each (length b.accounts) b.processes lines (subst (λ n. All (λ (l : Line). l.process < n) lines) count whole.within)
    (λ p below.
    let inside : p < length (calls_in closing) = omega (arith, below, count) in
    subst (All (IsCallOn (length b.accounts))) (sym (whole.calls p inside)) (calls-known (length b.accounts) closing.receipts are p [] inside))
