-- Runs in which the balances and the room cover all calls: each transfer is done, and each account is left with its credits and without its debits.
use Rattle.std.proofs.Common.{◌≡◌, ◌∙◌, ℕ, ◌+◌, ◌<◌, ◌≤◌, Bool, true, false, not, cond, ◌==◌, List, [], ◌∷◌, map, length, All, sum_by, count_by, refl, ap, arith}
use Rattle.at_commands.proofs.Prelude.{eq-eqb, All-cons, All-head, All-nil, All-tail, sum_by-cons, BookTerms, LedgerState, Step, asked_of, balance_of, sent_of, step, Run, asked_in, run_after, run_from, Line, run_from-cons, run_from-nil, done_in, is_done_reply, is_read, call_credit, call_debit}
use Rattle.at_ledger.specs.declared.call.Reply.TheVariants.{Done}
use Rattle.at_commands.proofs.SettledSteps.{IsDoneStep, IsDoneStep-step, IsMoved, IsOwnCall, IsSized, MayStep}

-- the lines of one process, and the debits of an account, among these
abbrev pub lines_by : ℕ → List Line → ℕ
lines_by process lines = count_by (λ l. l.process == process) lines

abbrev pub debits_in : ℕ → List Line → ℕ
debits_in account lines = sum_by (λ l. call_debit account l.call) lines

abbrev pub credits_in : ℕ → List Line → ℕ
credits_in account lines = sum_by (λ l. call_credit account l.call) lines

-- a line of a process, about what it owns
abbrev pub IsOwnLine : BookTerms → Line → Type 0
IsOwnLine b l = (l.process < b.processes) × IsOwnCall b l.process l.call

-- the balances cover all debits, and the room all calls
pub record IsCovered (s : LedgerState) (lines : List Line) : Type 0 where
  pub sized : IsSized s
  pub own : All (IsOwnLine s.book) lines
  pub debits : (a : ℕ) → a < length s.book.accounts → debits_in a lines ≤ balance_of s a
  pub sent : (p : ℕ) → p < s.book.processes → sent_of s p + lines_by p lines ≤ s.book.own_room
  pub asked : (p a : ℕ) → p < s.book.processes → a < length s.book.accounts → asked_of s p a + lines_by p lines ≤ s.book.request_room

-- the replies are those of the run from this state
abbrev pub IsLegalFrom : LedgerState → List Line → Type 0
IsLegalFrom s lines = map (λ l. l.reply) lines ≡ (run_from s (asked_in lines)).replies

abbrev pub last_from : LedgerState → List Line → LedgerState
last_from s lines = (run_from s (asked_in lines)).last

-- all is done, and the accounts are settled
pub record IsSettled (s : LedgerState) (lines : List Line) : Type 0 where
  pub sized : length (last_from s lines).balances ≡ length s.book.accounts
  pub done : All (λ l. is_read l.call ≡ false → l.reply ≡ Done) lines
  pub counts : done_in lines ≡ count_by (λ l. not (is_read l.call)) lines
  pub balances : (a : ℕ) → a < length s.book.accounts
      → balance_of (last_from s lines) a + debits_in a lines ≡ balance_of s a + credits_in a lines

-- the first of covered lines may step
MayStep-IsCovered : (s : LedgerState) (l : Line) (ls : List Line) → IsCovered s (l ∷ ls) → MayStep s l.process l.call
MayStep-IsCovered s l ls covered =
    let own : IsOwnLine s.book l = All-head (IsOwnLine s.book) l ls covered.own in
    let this : l.process == l.process ≡ true = eq-eqb l.process l.process refl in
    let one : ◌≡◌ {A = ℕ} (cond (l.process == l.process) 1 0) 1 = rw this refl in
    let lines = sum_by-cons (λ (m : Line). cond (m.process == l.process) 1 0) l ls in
    record {
      sized = covered.sized;
      known = own.0;
      own = own.1;
      debits = λ a within. omega (arith, covered.debits a within, sum_by-cons (λ (m : Line). call_debit a m.call) l ls);
      sent = omega (arith, covered.sent l.process own.0, lines, one);
      asked = λ a within. omega (arith, covered.asked l.process a own.0 within, lines, one);
    }

-- the others are covered after it
IsCovered-IsMoved : (s t : LedgerState) (l : Line) (ls : List Line) → IsCovered s (l ∷ ls) → IsMoved s t l.process l.call → IsCovered t ls
IsCovered-IsMoved s t l ls covered is = record {
  sized = is.sized;
  own = rw is.book (All-tail (IsOwnLine s.book) l ls covered.own);
  debits = rw is.book (λ a within. omega (arith, covered.debits a within, is.balances a within, sum_by-cons (λ (m : Line). call_debit a m.call) l ls));
  sent = rw is.book (λ p known. omega (arith, covered.sent p known, is.sent p, sum_by-cons (λ (m : Line). cond (m.process == p) 1 0) l ls));
  asked = rw is.book (λ p a known within.
      let more = rw is.book at (is.asked p a within) in
      omega (arith, covered.asked p a known within, more, sum_by-cons (λ (m : Line). cond (m.process == p) 1 0) l ls));
}

-- a legal run of covered lines settles
pub IsSettled-IsCovered : (s : LedgerState) (lines : List Line) → IsCovered s lines → IsLegalFrom s lines → IsSettled s lines
IsSettled-IsCovered s [] covered legal =
    let last : last_from s [] ≡ s = ap (λ (r : Run). r.last) (run_from-nil s) in
    record {
      sized = ap (λ (t : LedgerState). length t.balances) last ∙ covered.sized.balances;
      done = All-nil (λ l. is_read l.call ≡ false → l.reply ≡ Done);
      counts = refl;
      balances = λ a within. ap (λ (t : LedgerState). balance_of t a + 0) last;
    }
IsSettled-IsCovered s (l ∷ ls) covered legal =
    let st : Step = step s l.process l.call in
    let is : IsDoneStep s l.process l.call st = IsDoneStep-step s l.process l.call (MayStep-IsCovered s l ls covered) in
    let run : run_from s (asked_in (l ∷ ls)) ≡ run_after st.reply (run_from st.ledger (asked_in ls)) = run_from-cons s (l.process, l.call) (asked_in ls) in
    let replies : l.reply ∷ map (λ (m : Line). m.reply) ls ≡ st.reply ∷ (run_from st.ledger (asked_in ls)).replies = legal ∙ ap (λ (r : Run). r.replies) run in
    let first : l.reply ≡ st.reply = cc in
    let rest : IsLegalFrom st.ledger ls = cc in
    let later = IsSettled-IsCovered st.ledger ls (IsCovered-IsMoved s st.ledger l ls covered is.moved) rest in
    let last : last_from s (l ∷ ls) ≡ last_from st.ledger ls = ap (λ (r : Run). r.last) run in
    let accounts : length st.ledger.book.accounts ≡ length s.book.accounts = ap (λ (b : BookTerms). length b.accounts) is.moved.book in
    let counts : ◌≡◌ {A = ℕ} (cond (is_done_reply l.reply) 1 0) (cond (not (is_read l.call)) 1 0) = ap (λ (b : Bool). cond b 1 0) (ap is_done_reply first ∙ is.counts) in
    record {
      sized = ap (λ (t : LedgerState). length t.balances) last ∙ later.sized ∙ accounts;
      done = All-cons (λ (m : Line). is_read m.call ≡ false → m.reply ≡ Done) l ls (λ transfer. first ∙ is.done transfer) later.done;
      counts = omega (
        arith,
        sum_by-cons (λ (m : Line). cond (is_done_reply m.reply) 1 0) l ls,
        sum_by-cons (λ (m : Line). cond (not (is_read m.call)) 1 0) l ls,
        later.counts,
        counts,
      );
      balances = λ a within.
          let now = later.balances a (omega (arith, accounts)) in
          rw last
          (omega (
            arith,
            now,
            is.moved.balances a within,
            sum_by-cons (λ (m : Line). call_debit a m.call) l ls,
            sum_by-cons (λ (m : Line). call_credit a m.call) l ls,
          ));
    }
