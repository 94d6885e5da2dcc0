-- One call whose source and room cover it: a transfer is done, and moves its amount.
use Rattle.std.proofs.Common.{◌≡◌, ◌∙◌, ℕ, ◌+◌, ◌-◌, ◌*◌, ◌<◌, ◌≤◌, Bool, true, false, not, cond, ◌==◌, nat_lt, List, [], ◌∷◌, length, get_or, set, refl, sym, ap, arith, inl, inr, length-set}
use Rattle.at_commands.proofs.Prelude.{and_right, cases_eq, cond_both, eq-eqb, eqb-true, le-ltb, ne_eqb, or_from, get_or-set_other, get_or-set_same, mul-add-lt, same_from_place, mul_comm, is_shared, BookTerms, account_of, is_owner, LedgerState, Step, after_done, asked_of, asked_position, balance_of, is_full, moved, pay, sent_of, step, with_asked, with_sent, credited, Call, Transfer, Read, Pay, is_done_reply, is_read, call_credit, call_debit}
use Rattle.at_ledger.specs.declared.call.Reply.TheVariants.{Done}

-- the call moves what its process owns, between accounts that are there
abbrev pub IsOwnCall : BookTerms → ℕ → Call → Type 0
IsOwnCall b process (Transfer from to amount) = (from < length b.accounts) × (to < length b.accounts) × (is_owner b process from ≡ true)
IsOwnCall b process (Read account) = Unit {0}
IsOwnCall b process (Pay from targets) = ⊥

-- a state has a number for each account, each process, and each of both
pub record IsSized (s : LedgerState) : Type 0 where
  pub balances : length s.balances ≡ length s.book.accounts
  pub sent : length s.sent ≡ s.book.processes
  pub asked : length s.asked ≡ s.book.processes * length s.book.accounts

-- the balances and the room cover the call
pub record MayStep (s : LedgerState) (process : ℕ) (call : Call) : Type 0 where
  pub sized : IsSized s
  pub known : process < s.book.processes
  pub own : IsOwnCall s.book process call
  pub debits : (a : ℕ) → a < length s.book.accounts → call_debit a call ≤ balance_of s a
  pub sent : sent_of s process < s.book.own_room
  pub asked : (a : ℕ) → a < length s.book.accounts → asked_of s process a < s.book.request_room

-- what the call has moved, and the most room that it has used
pub record IsMoved (s t : LedgerState) (process : ℕ) (call : Call) : Type 0 where
  pub book : t.book ≡ s.book
  pub sized : IsSized t
  pub balances : (a : ℕ) → a < length s.book.accounts → balance_of t a + call_debit a call ≡ balance_of s a + call_credit a call
  pub sent : (q : ℕ) → sent_of t q ≤ sent_of s q + cond (process == q) 1 0
  pub asked : (q a : ℕ) → a < length s.book.accounts → asked_of t q a ≤ asked_of s q a + cond (process == q) 1 0

-- the call is done, if it is a transfer
pub record IsDoneStep (s : LedgerState) (process : ℕ) (call : Call) (to : Step) : Type 0 where
  pub moved : IsMoved s to.ledger process call
  pub counts : is_done_reply to.reply ≡ not (is_read call)
  pub done : is_read call ≡ false → to.reply ≡ Done

-- one number of a list is set
get_or-set : (xs : List ℕ) (i v j : ℕ) → i < length xs → get_or (set xs i v) j 0 ≡ cond (i == j) v (get_or xs j 0)
get_or-set xs i v j within =
    elim (cases_eq i j) [
      | inl same ↦
          let test : i == j ≡ true = eq-eqb i j same in
          rw (test, ← same) (get_or-set_same xs i v 0 within)
      | inr other ↦
          let test : i == j ≡ false = ne_eqb i j other in
          rw test (get_or-set_other xs i j v 0 (λ e. other (sym e)))
    ]

-- an amount is taken from one number and then added to another
moved-balance : (x y z amount : ℕ) (b c : Bool) → amount ≤ x → (b ≡ true → y ≡ x) → (c ≡ true → z ≡ cond b (x - (0 + amount)) y)
    → cond c (z + amount) (cond b (x - (0 + amount)) y) + cond b amount 0 ≡ y + cond c amount 0
moved-balance x y z amount true true covers same at = let e = same refl in let f = at refl in omega arith
moved-balance x y z amount true false covers same at = let e = same refl in omega arith
moved-balance x y z amount false true covers same at = let f = at refl in omega arith
moved-balance x y z amount false false covers same at = omega arith

get_or-moved : (xs : List ℕ) (from to amount a : ℕ) → from < length xs → to < length xs → amount ≤ get_or xs from 0
    → get_or (credited (set xs from (get_or xs from 0 - (0 + amount))) ((to, amount) ∷ [])) a 0 + cond (from == a) amount 0
    ≡ get_or xs a 0 + cond (to == a) amount 0
unfolding credited
get_or-moved xs from to amount a source target covers =
    let left = get_or xs from 0 - (0 + amount) in
    let ys = set xs from left in
    let size : to < length ys = omega (arith, length-set xs from left) in
    let first = get_or-set xs from left a source in
    let second = get_or-set ys to (get_or ys to 0 + amount) a size in
    rw (second, first)
    (moved-balance (get_or xs from 0) (get_or xs a 0) (get_or ys to 0) amount (from == a) (to == a) covers
    (λ e. ap (λ i. get_or xs i 0) (sym (eqb-true from a e)))
    (λ e. ap (λ i. get_or ys i 0) (eqb-true to a e) ∙ first))

-- one more in a count
get_or-count_more : (xs : List ℕ) (i j : ℕ) (b : Bool) → i < length xs → (i ≡ j → b ≡ true) → get_or (set xs i (get_or xs i 0 + 1)) j 0 ≤ get_or xs j 0 + cond b 1 0
get_or-count_more xs i j b within same =
    elim (cases_eq i j) [
      | inl at ↦
          let one : b ≡ true = same at in
          rw (one, ← at) (let here = get_or-set_same xs i (get_or xs i 0 + 1) 0 within in omega arith)
      | inr other ↦ let there = get_or-set_other xs i j (get_or xs i 0 + 1) 0 (λ e. other (sym e)) in omega arith
    ]

-- a transfer that its source and room cover is done
pay_done : (s : LedgerState) (process from to amount : ℕ) → is_owner s.book process from ≡ true → is_full s process from ≡ false → amount ≤ balance_of s from
    → pay s process from ((to, amount) ∷ []) ≡ record { ledger = after_done s process from ((to, amount) ∷ []); reply = Done }
pay_done s process from to amount owner room covers =
    let covered : nat_lt (balance_of s from) (0 + amount) ≡ false = le-ltb (balance_of s from) (0 + amount) (omega arith) in
    rw (owner, room, covered) refl

-- there is room left
is_full-false : (s : LedgerState) (process from : ℕ) → sent_of s process < s.book.own_room → asked_of s process from < s.book.request_room → is_full s process from ≡ false
is_full-false s process from sent asked =
    let own : sent_of s process == s.book.own_room ≡ false = ne_eqb _ _ (λ e. omega arith) in
    let request : asked_of s process from == s.book.request_room ≡ false = ne_eqb _ _ (λ e. omega arith) in
    or_from _ _ (and_right _ _ own) (and_right _ _ request)

-- what a transfer moves, and that it uses one more of some room
IsMoved-sent : (s : LedgerState) (process from to amount : ℕ) → IsSized s → process < s.book.processes → from < length s.book.accounts → to < length s.book.accounts
    → amount ≤ balance_of s from → IsMoved s (with_sent (moved s from ((to, amount) ∷ [])) process) process (Transfer from to amount)
unfolding credited
IsMoved-sent s process from to amount sized known source target covers =
    let ys = set s.balances from (balance_of s from - (0 + amount)) in
    record {
      book = refl;
      sized = record {
        balances = length-set ys to (get_or ys to 0 + amount) ∙ length-set s.balances from (balance_of s from - (0 + amount)) ∙ sized.balances;
        sent = length-set s.sent process (sent_of s process + 1) ∙ sized.sent;
        asked = sized.asked;
      };
      balances = λ a within. get_or-moved s.balances from to amount a (omega (arith, sized.balances)) (omega (arith, sized.balances)) covers;
      sent = λ q. get_or-count_more s.sent process q (process == q) (omega (arith, sized.sent)) (eq-eqb process q);
      asked = λ q a within. omega arith;
    }

IsMoved-asked : (s : LedgerState) (process from to amount : ℕ) → IsSized s → process < s.book.processes → from < length s.book.accounts → to < length s.book.accounts
    → amount ≤ balance_of s from → IsMoved s (with_asked (moved s from ((to, amount) ∷ [])) process from) process (Transfer from to amount)
unfolding credited
IsMoved-asked s process from to amount sized known source target covers =
    let ys = set s.balances from (balance_of s from - (0 + amount)) in
    let accounts = length s.book.accounts in
    let position = asked_position s.book process from in
    let position_below : position < accounts * s.book.processes = mul-add-lt process accounts from s.book.processes known source in
    let within : position < length s.asked = omega (arith, sized.asked, mul_comm accounts s.book.processes) in
    record {
      book = refl;
      sized = record {
        balances = length-set ys to (get_or ys to 0 + amount) ∙ length-set s.balances from (balance_of s from - (0 + amount)) ∙ sized.balances;
        sent = sized.sent;
        asked = length-set s.asked position (asked_of s process from + 1) ∙ sized.asked;
      };
      balances = λ a below. get_or-moved s.balances from to amount a (omega (arith, sized.balances)) (omega (arith, sized.balances)) covers;
      sent = λ q. omega arith;
      asked = λ q a below. get_or-count_more s.asked position (asked_position s.book q a) (process == q) within
          (λ same. eq-eqb process q (same_from_place process from q a accounts source below same).0);
    }

-- the step of a covered call
pub IsDoneStep-step : (s : LedgerState) (process : ℕ) (call : Call) → MayStep s process call → IsDoneStep s process call (step s process call)
IsDoneStep-step s process (Transfer from to amount) may =
    let own : IsOwnCall s.book process (Transfer from to amount) = may.own in
    let all : cond (from == from) amount 0 ≡ amount = rw (eq-eqb from from refl) refl in
    let covers : amount ≤ balance_of s from = omega (arith, all, may.debits from own.0) in
    let room = is_full-false s process from may.sent (may.asked from own.0) in
    let targets = (to, amount) ∷ [] in
    let moves : IsMoved s (after_done s process from targets) process (Transfer from to amount) =
    cond_both (is_shared (account_of s.book from)) (with_asked (moved s from targets) process from) (with_sent (moved s from targets) process)
    (λ t. IsMoved s t process (Transfer from to amount))
    (λ _. IsMoved-asked s process from to amount may.sized may.known own.0 own.1 covers)
    (λ _. IsMoved-sent s process from to amount may.sized may.known own.0 own.1 covers) in
    rw (pay_done s process from to amount own.2 room covers) (record { moved = moves; counts = refl; done = λ _. refl })
IsDoneStep-step s process (Read account) may = record {
  moved = record { book = refl; sized = may.sized; balances = λ a within. refl; sent = λ q. omega arith; asked = λ q a within. omega arith };
  counts = refl;
  done = λ transfer. cc;
}
IsDoneStep-step s process (Pay from targets) may = absurd may.own
