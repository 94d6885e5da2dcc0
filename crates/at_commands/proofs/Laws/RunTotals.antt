-- Runs of calls that name accounts of the book: the lines of whole files are such a run, and no call changes the total.
use Rattle.std.proofs.Common.{◌≡◌, ℕ, ◌-◌, ◌<◌, ◌≤◌, ◌==◌, not, ltb, Bool, true, false, cond, List, [], ◌∷◌, length, set, map, sum, All, refl, sym, subst, ◌∙◌, arith, eq-eqb}
use Rattle.at_commands.proofs.Prelude.{ltb-false, length-map, length-set, All-cons, All-head, All-nil, All-tail, sum-map, sum_by-set, length-credited, sum-credited, is_shared, BookTerms, account_of, is_owner, total_of, AreTargetsOn, IsCallOn, IsLineOn, TargetPair, amount_of, Whole, asked_in, last_state, lines_of, run_from, LedgerState, Step, after_done, after_short, balance_of, is_full, moved, opening_state, pay, step, with_asked, with_sent, Call, Pay, Read, Transfer, Line, Full, NotOwner, Short}
use Rattle.at_ledger.specs.declared.call.Reply.TheVariants.{Done}

-- the lines of a whole list name accounts of the book, where all calls of the files do

call-kept : (holds : Call → Type 0) (t : Bool) (l : Line) (rest : List Line)
    → All holds (map (λ (x : Line). x.call) (cond t (l ∷ rest) rest)) → All holds (map (λ (x : Line). x.call) rest)
call-kept holds true l rest all = All-tail holds l.call (map (λ (x : Line). x.call) rest) all
call-kept holds false l rest all = all

call-first : (holds : Call → Type 0) (t : Bool) (l : Line) (rest : List Line) → t ≡ true
    → All holds (map (λ (x : Line). x.call) (cond t (l ∷ rest) rest)) → holds l.call
call-first holds t l rest is all =
    All-head holds l.call (map (λ (x : Line). x.call) rest) (subst (λ u. All holds (map (λ (x : Line). x.call) (cond u (l ∷ rest) rest))) is all)

IsLineOn-each : (accounts processes : ℕ) (lines : List Line) → All (λ l. l.process < processes) lines
    → ((p : ℕ) → p < processes → All (IsCallOn accounts) (map (λ (l : Line). l.call) (lines_of p lines)))
    → All (IsLineOn processes accounts) lines
IsLineOn-each accounts processes [] within each = All-nil (IsLineOn processes accounts)
IsLineOn-each accounts processes (l ∷ lines) within each =
    let below : l.process < processes = All-head (λ (x : Line). x.process < processes) l lines within in
    All-cons (IsLineOn processes accounts) l lines
    (below, call-first (IsCallOn accounts) (l.process == l.process) l (lines_of l.process lines) (eq-eqb l.process l.process refl) (each l.process below))
    (IsLineOn-each accounts processes lines (All-tail (λ (x : Line). x.process < processes) l lines within)
    (λ p inside. call-kept (IsCallOn accounts) (l.process == p) l (lines_of p lines) (each p inside)))

pub IsLineOn-Whole : (accounts processes : ℕ) (files : List (List Call)) (lines : List Line) → Whole files lines → length files ≡ processes
    → All (All (IsCallOn accounts)) files → All (IsLineOn processes accounts) lines
IsLineOn-Whole accounts processes files lines whole count known =
    IsLineOn-each accounts processes lines (subst (λ n. All (λ (l : Line). l.process < n) lines) count whole.within)
    (λ p below.
    let inside : p < length files = omega (arith, below, count) in
    subst (All (IsCallOn accounts)) (sym (whole.calls p inside)) (known p [] inside))

-- the state is of the book, with a balance for each account, and their sum is that of the openings
record IsSummed (b : BookTerms) (s : LedgerState) : Type 0 where
  book : s.book ≡ b
  accounts : length s.balances ≡ length b.accounts
  total : sum s.balances ≡ total_of b

-- whichever is chosen
chosen : {X : Type 0} (holds : X → Type 0) (t : Bool) (x y : X) → (t ≡ true → holds x) → (t ≡ false → holds y) → holds (cond t x y)
chosen holds true x y first second = first refl
chosen holds false x y first second = second refl

IsSummed-counted : (b : BookTerms) (s : LedgerState) (process source : ℕ) (t : Bool) → IsSummed b s
    → IsSummed b (cond t (with_asked s process source) (with_sent s process))
IsSummed-counted b s process source t kept =
    chosen (IsSummed b) t (with_asked s process source) (with_sent s process)
    (λ _. record { book = kept.book; accounts = kept.accounts; total = kept.total })
    (λ _. record { book = kept.book; accounts = kept.accounts; total = kept.total })

IsSummed-moved : (b : BookTerms) (s : LedgerState) (source : ℕ) (targets : List TargetPair) → IsSummed b s → source < length b.accounts
    → AreTargetsOn (length b.accounts) targets → amount_of targets ≤ balance_of s source → IsSummed b (moved s source targets)
IsSummed-moved b s source targets kept inside known enough =
    let y = balance_of s source - amount_of targets in
    let sized : length (set s.balances source y) ≡ length b.accounts = length-set s.balances source y ∙ kept.accounts in
    let known_here : AreTargetsOn (length (set s.balances source y)) targets = subst (λ n. AreTargetsOn n targets) (sym sized) known in
    let taken = sum_by-set (λ n. n) s.balances source y 0 (omega (arith, kept.accounts, inside)) in
    record {
      book = kept.book;
      accounts = length-credited (set s.balances source y) targets ∙ sized;
      total = omega (arith, sum-credited (set s.balances source y) targets known_here, taken, kept.total, enough);
    }

IsSummed-pay : (b : BookTerms) (s : LedgerState) (process source : ℕ) (targets : List TargetPair) → IsSummed b s → source < length b.accounts
    → AreTargetsOn (length b.accounts) targets → IsSummed b (pay s process source targets).ledger
IsSummed-pay b s process source targets kept inside known =
    let holds : Step → Type 0 = λ made. IsSummed b made.ledger in
    chosen holds (not (is_owner s.book process source)) (record { ledger = s; reply = NotOwner }) _ (λ _. kept) (λ _.
    chosen holds (is_full s process source) (record { ledger = s; reply = Full }) _ (λ _. kept) (λ _.
    chosen holds (ltb (balance_of s source) (amount_of targets))
    (record { ledger = after_short s process source; reply = Short }) (record { ledger = after_done s process source targets; reply = Done })
    (λ _. chosen (IsSummed b) (is_shared (account_of s.book source)) (with_asked s process source) s
    (λ _. record { book = kept.book; accounts = kept.accounts; total = kept.total }) (λ _. kept))
    (λ covered. IsSummed-counted b (moved s source targets) process source (is_shared (account_of s.book source))
    (IsSummed-moved b s source targets kept inside known (omega (arith, ltb-false (balance_of s source) (amount_of targets) covered))))))

IsSummed-step : (b : BookTerms) (s : LedgerState) (process : ℕ) (call : Call) → IsSummed b s → IsCallOn (length b.accounts) call
    → IsSummed b (step s process call).ledger
IsSummed-step b s process (Transfer from to amount) kept known =
    IsSummed-pay b s process from ((to, amount) ∷ []) kept known.0
    (All-cons (λ (t : TargetPair). t.0 < length b.accounts) (to, amount) [] known.1 (All-nil (λ (t : TargetPair). t.0 < length b.accounts)))
IsSummed-step b s process (Read account) kept known = kept
IsSummed-step b s process (Pay from targets) kept known = IsSummed-pay b s process from targets kept known.0 known.1

IsSummed-lines : (b : BookTerms) (processes : ℕ) (s : LedgerState) (lines : List Line) → IsSummed b s
    → All (IsLineOn processes (length b.accounts)) lines → IsSummed b (run_from s (asked_in lines)).last
unfolding run_from
IsSummed-lines b processes s [] kept known = kept
IsSummed-lines b processes s (l ∷ lines) kept known =
    IsSummed-lines b processes (step s l.process l.call).ledger lines
    (IsSummed-step b s l.process l.call kept (All-head (IsLineOn processes (length b.accounts)) l lines known).1)
    (All-tail (IsLineOn processes (length b.accounts)) l lines known)

-- the sum of the last balances is that of the openings
pub sum-last_state : (b : BookTerms) (processes : ℕ) (lines : List Line) → All (IsLineOn processes (length b.accounts)) lines
    → sum (last_state b lines).balances ≡ total_of b
sum-last_state b processes lines known =
    (IsSummed-lines b processes (opening_state b) lines
    (record { book = refl; accounts = length-map b.accounts (λ t. t.opening); total = sum-map (λ t. t.opening) b.accounts }) known).total
