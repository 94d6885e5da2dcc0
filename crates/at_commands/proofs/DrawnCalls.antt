-- What the generator's calls move, and how many of them are a process's.
use Rattle.std.proofs.Common.{◌≡◌, ◌∙◌, ℕ, ◌+◌, ◌*◌, ◌<◌, ◌≤◌, Bool, true, false, cond, ◌==◌, List, [], ◌∷◌, map, length, get_or, All, sum_by, refl, sym, ap, arith, zero-add, ◌⊎◌, inl, inr}
use Rattle.at_commands.proofs.Prelude.{range_with_len, cond_both, eq-eqb, ne_eqb, length-map, All-cons, All-head, All-map, All-nil, All-tail, All-weaker, get_or-map-range_with_len, length-map-range_with_len, length-filter, sum_by-cons, sum_by-le, mod_below, IsPlayable, IsCallOn, Whole, lines_of, Call, Transfer, Read, Pay, Line, MayMake, account_drawn, amount_drawn, call_drawn, calls_drawn, drawn, files_made, kind_drawn, next_state, source_drawn, state_after_calls, call_debit, over_files}
use Rattle.at_commands.proofs.LineSums.{sum_by-Whole}
use Rattle.at_commands.proofs.SettledRuns.{debits_in, lines_by}

-- a read, or a transfer of at most 100 from the process's own account or from that of all
abbrev pub IsDrawn : ℕ → ℕ → Call → Type 0
IsDrawn processes process (Transfer from to amount) = ((from ≡ process) ⊎ (from ≡ processes)) × (to < processes + 1) × (amount ≤ 100)
IsDrawn processes process (Read account) = account < processes + 1
IsDrawn processes process (Pay from targets) = ⊥

IsDrawn-call_drawn : (processes process x : ℕ) → IsDrawn processes process (call_drawn processes process x)
unfolding call_drawn
IsDrawn-call_drawn processes process x =
    let account : account_drawn processes x < processes + 1 = mod_below (drawn (next_state (next_state x))) (processes + 1) (omega arith) in
    let amount : amount_drawn x ≤ 100 = omega (arith, mod_below (drawn (next_state (next_state (next_state x)))) 100 (omega arith)) in
    let source : (source_drawn processes process x ≡ process) ⊎ (source_drawn processes process x ≡ processes) =
    cond_both (kind_drawn x == 1) processes process (λ from. (from ≡ process) ⊎ (from ≡ processes)) (λ _. inr refl) (λ _. inl refl) in
    cond_both (kind_drawn x == 0) (Read (account_drawn processes x)) (Transfer (source_drawn processes process x) (account_drawn processes x) (amount_drawn x))
    (IsDrawn processes process) (λ _. account) (λ _. (source, account, amount))

-- the calls of a process
pub IsDrawn-calls_drawn : (processes process calls x : ℕ) → All (IsDrawn processes process) (calls_drawn processes process calls x)
IsDrawn-calls_drawn processes process calls x =
    All-map (IsDrawn processes process) (λ i. call_drawn processes process (state_after_calls x i)) (range_with_len 0 calls)
    (λ k d within. IsDrawn-call_drawn processes process (state_after_calls x (get_or (range_with_len 0 calls) k d)))

length-calls_drawn : (processes process calls x : ℕ) → length (calls_drawn processes process calls x) ≡ calls
length-calls_drawn processes process calls x = length-map-range_with_len (λ i. call_drawn processes process (state_after_calls x i)) 0 calls

pub length-files_made : (first processes calls : ℕ) → length (files_made first processes calls) ≡ processes
length-files_made first processes calls = length-map-range_with_len (λ p. calls_drawn processes p calls (state_after_calls first (p * calls))) 0 processes

-- the file of a process
get_or-files_made : (first processes calls p : ℕ) (d : List Call) → p < processes
    → get_or (files_made first processes calls) p d ≡ calls_drawn processes p calls (state_after_calls first (p * calls))
get_or-files_made first processes calls p d below =
    get_or-map-range_with_len (λ q. calls_drawn processes q calls (state_after_calls first (q * calls))) 0 processes p p d below (zero-add p)

-- a drawn call is one of the book's accounts
IsCallOn-IsDrawn : (processes process : ℕ) (call : Call) → IsDrawn processes process call → process < processes → IsCallOn (processes + 1) call
IsCallOn-IsDrawn processes process (Transfer from to amount) (inl own, to_in, small) known = (omega arith, to_in)
IsCallOn-IsDrawn processes process (Transfer from to amount) (inr all, to_in, small) known = (omega arith, to_in)
IsCallOn-IsDrawn processes process (Read account) drawn known = drawn
IsCallOn-IsDrawn processes process (Pay from targets) drawn known = absurd drawn

-- the files are ones that can be played
pub IsPlayable-files_made : (first processes calls : ℕ) → MayMake processes calls → All (IsPlayable (processes + 1)) (files_made first processes calls)
IsPlayable-files_made first processes calls may k d within =
    let below : k < processes = omega (arith, length-files_made first processes calls) in
    let x = state_after_calls first (k * calls) in
    rw (get_or-files_made first processes calls k d below) (record {
      known = All-weaker (IsDrawn processes k) (IsCallOn (processes + 1)) (λ call is. IsCallOn-IsDrawn processes k call is below) _ (IsDrawn-calls_drawn processes k calls x);
      few = omega (arith, may, length-calls_drawn processes k calls x);
    })

-- what holds of the calls of each process's lines holds of each line
All-lines_of : (Q : ℕ → Call → Type 0) (n : ℕ) (lines : List Line) → All (λ l. l.process < n) lines
    → ((p : ℕ) → p < n → All (Q p) (map (λ l. l.call) (lines_of p lines))) → All (λ l. Q l.process l.call) lines
All-lines_of Q n [] within each = All-nil (λ l. Q l.process l.call)
All-lines_of Q n (l ∷ ls) within each =
    let below : l.process < n = All-head (λ m. m.process < n) l ls within in
    let this : l.process == l.process ≡ true = eq-eqb l.process l.process refl in
    let calls : All (Q l.process) (l.call ∷ map (λ m. m.call) (lines_of l.process ls)) = rw this at (each l.process below) in
    All-cons (λ m. Q m.process m.call) l ls (All-head (Q l.process) l.call (map (λ m. m.call) (lines_of l.process ls)) calls)
    (All-lines_of Q n ls (All-tail (λ m. m.process < n) l ls within) (λ p known. others p (l.process == p) (each p known)))
  where
    others : (p : ℕ) (b : Bool) → All (Q p) (map (λ m. m.call) (cond b (l ∷ lines_of p ls) (lines_of p ls))) → All (Q p) (map (λ m. m.call) (lines_of p ls))
    others p true holds = All-tail (Q p) l.call (map (λ m. m.call) (lines_of p ls)) holds
    others p false holds = holds

-- lines that are whole for the generator's files

pub IsDrawn-Whole : (first processes calls : ℕ) (lines : List Line) → Whole (files_made first processes calls) lines
    → All (λ l. IsDrawn processes l.process l.call) lines
IsDrawn-Whole first processes calls lines whole =
    All-lines_of (IsDrawn processes) (length (files_made first processes calls)) lines whole.within
    (λ p within.
    let below : p < processes = omega (arith, length-files_made first processes calls) in
    rw (whole.calls p within ∙ get_or-files_made first processes calls p [] below) (IsDrawn-calls_drawn processes p calls (state_after_calls first (p * calls))))

-- each process has as many lines as its file has calls
pub lines_by-Whole : (first processes calls : ℕ) (lines : List Line) (p : ℕ) → Whole (files_made first processes calls) lines → p < processes → lines_by p lines ≡ calls
lines_by-Whole first processes calls lines p whole below =
    let within : p < length (files_made first processes calls) = omega (arith, length-files_made first processes calls) in
    sym (length-filter (λ (l : Line). l.process == p) lines) ∙ sym (length-map (lines_of p lines) (λ (l : Line). l.call))
    ∙ ap (λ (file : List Call). length file) (whole.calls p within ∙ get_or-files_made first processes calls p [] below)
    ∙ length-calls_drawn processes p calls (state_after_calls first (p * calls))

-- a call takes at most 100 from any account
call_debit-le : (processes process a : ℕ) (call : Call) → IsDrawn processes process call → call_debit a call ≤ 100
call_debit-le processes process a (Transfer from to amount) (source, to_in, small) = cond_both (from == a) amount 0 (λ n. n ≤ 100) (λ _. small) (λ _. omega arith)
call_debit-le processes process a (Read account) drawn = omega arith
call_debit-le processes process a (Pay from targets) drawn = absurd drawn

-- and nothing from the own account of another process
call_debit-own : (processes process a : ℕ) (call : Call) → IsDrawn processes process call → a < processes → call_debit a call ≤ 100 * cond (process == a) 1 0
call_debit-own processes process a (Transfer from to amount) (inl own, to_in, small) below =
    rw own (elim (process == a) as (λ b. cond b amount 0 ≤ 100 * cond b 1 0) [ true ↦ omega arith | false ↦ omega arith ])
call_debit-own processes process a (Transfer from to amount) (inr all, to_in, small) below =
    let other : from == a ≡ false = ne_eqb from a (λ e. omega arith) in
    rw other (omega arith)
call_debit-own processes process a (Read account) drawn below = omega arith
call_debit-own processes process a (Pay from targets) drawn below = absurd drawn

-- a process's own account pays for its own calls alone
debits_in-own : (processes a : ℕ) (lines : List Line) → All (λ l. IsDrawn processes l.process l.call) lines → a < processes → debits_in a lines ≤ 100 * lines_by a lines
debits_in-own processes a [] drawn below = omega arith
debits_in-own processes a (l ∷ ls) drawn below =
    let first = call_debit-own processes l.process a l.call (All-head (λ (m : Line). IsDrawn processes m.process m.call) l ls drawn) below in
    let rest = debits_in-own processes a ls (All-tail (λ (m : Line). IsDrawn processes m.process m.call) l ls drawn) below in
    omega (arith, first, rest, sum_by-cons (λ (m : Line). call_debit a m.call) l ls, sum_by-cons (λ (m : Line). cond (m.process == a) 1 0) l ls)

pub debits_in-own_Whole : (first processes calls a : ℕ) (lines : List Line) → Whole (files_made first processes calls) lines → a < processes
    → debits_in a lines ≤ 100 * calls
debits_in-own_Whole first processes calls a lines whole below =
    let most = debits_in-own processes a lines (IsDrawn-Whole first processes calls lines whole) below in
    omega (arith, most, lines_by-Whole first processes calls lines a whole below)

-- all calls together pay from any account
pub debits_in-all_Whole : (first processes calls a : ℕ) (lines : List Line) → Whole (files_made first processes calls) lines
    → debits_in a lines ≤ processes * (calls * 100)
debits_in-all_Whole first processes calls a lines whole =
    let files = files_made first processes calls in
    let total = sum_by-Whole (call_debit a) files lines whole in
    let most : over_files (call_debit a) files ≤ length files * (calls * 100) = sum_by-le (λ (file : List Call). sum_by (call_debit a) file) (calls * 100) files each in
    let few = rw (length-files_made first processes calls) at most in
    omega (arith, total, few)
  where
    each : All (λ (file : List Call). sum_by (call_debit a) file ≤ calls * 100) (files_made first processes calls)
    each k d within =
        let below : k < processes = omega (arith, length-files_made first processes calls) in
        let x = state_after_calls first (k * calls) in
        let most = sum_by-le (call_debit a) 100 (calls_drawn processes k calls x)
        (All-weaker (IsDrawn processes k) (λ call. call_debit a call ≤ 100) (λ call is. call_debit-le processes k a call is) _ (IsDrawn-calls_drawn processes k calls x)) in
        rw (get_or-files_made first processes calls k d below) (rw (length-calls_drawn processes k calls x) at most)
