-- How many records the logs of a book have room for: of one process, and of all together.
use Rattle.std.proofs.Common.{◌≡◌, ℕ, ◌*◌, Bool, true, false, cond, length, refl, arith, ◌+◌, ◌<◌, ◌≤◌, ◌==◌, zero, suc, List, [], ◌∷◌, get_or, ap, ◌∙◌, inl, inr}
use Rattle.at_history.proofs.Prelude.{cases_eq, eq-eqb, ne_eqb, lt-ltb, nat_tests, All-head, All-tail, get_or-range_with_len, length-range_with_len, get_or-le-sum_by, sum-map, sum_by-cons, sum_by-le-sum_by, mul-le, All, position, sum_by, range_with_len, is_some, AccountTerms, is_shared, rounds_room, slots_of, rounds_room_of, BookTerms, IsBegun, log_room_of, places_max, ArePublishedBy, count_of, counts, Publication}
use Rattle.at_history.proofs.Laws.Counts.{sum-counts}
use Rattle.at_history.proofs.Laws.Sums.{sum_by-add, sum_by-range_const, sum_by-range-le}

-- the rounds of an account are its slots' requests
pub rounds_room-slots_of : (request_room : ℕ) (t : AccountTerms) → rounds_room request_room t ≡ slots_of t * request_room
rounds_room-slots_of request_room t = rounds_cases (is_shared t) (length t.owners) request_room
  where
    rounds_cases : (shared : Bool) (k q : ℕ) → cond shared (k * q) 0 ≡ cond shared k 0 * q
    rounds_cases true k q = refl
    rounds_cases false k q = omega arith

-- a process has at most all rounds of an account
rounds_room_of-le : (request_room p : ℕ) (t : AccountTerms) → rounds_room_of request_room p t ≤ rounds_room request_room t
rounds_room_of-le request_room p t = rounds_cases (is_some (position (λ o. o == p) t.owners)) (rounds_room request_room t)
  where
    rounds_cases : (owns : Bool) (r : ℕ) → cond owns r 0 ≤ r
    rounds_cases true r = omega arith
    rounds_cases false r = omega arith

-- a number in a row counts once
one_of_range : (owner r a n : ℕ) → (owner < a → sum_by (λ p. cond (owner == p) r 0) (range_with_len a n) ≡ 0) × (sum_by (λ p. cond (owner == p) r 0) (range_with_len a n) ≤ r)
one_of_range owner r a zero = (λ _. refl, omega arith)
one_of_range owner r a (suc n) =
    let rest = one_of_range owner r (a + 1) n in
    let all = sum_by-cons (λ p. cond (owner == p) r 0) a (range_with_len (a + 1) n) in
    elim (cases_eq owner a) as (λ _. (owner < a → sum_by (λ p. cond (owner == p) r 0) (range_with_len a (suc n)) ≡ 0) × (sum_by (λ p. cond (owner == p) r 0) (range_with_len a (suc n)) ≤ r)) [
      | inl same ↦
          let here : cond (owner == a) r 0 ≡ r = rw (eq-eqb owner a same) refl in
          let none = rest.0 (omega arith) in
          (λ below. absurd (omega arith), omega (arith, all, here, none))
      | inr other ↦
          let here : cond (owner == a) r 0 ≡ 0 = rw (ne_eqb owner a other) refl in
          (λ below. omega (arith, all, here, rest.0 (omega arith)), omega (arith, all, here, rest.1))
    ]

-- whether a process is an owner, the first of them or a later one
pub is_some-position : (owner process : ℕ) (owners : List ℕ)
    → is_some (position (λ o. o == process) (owner ∷ owners))
    ≡ cond (owner == process) true (is_some (position (λ o. o == process) owners))
is_some-position owner process owners =
    elim (cases_eq owner process) as (λ _. is_some (position (λ o. o == process) (owner ∷ owners)) ≡ cond (owner == process) true (is_some (position (λ o. o == process) owners))) [
      | inl same ↦ rw (eq-eqb owner process same) (rw (lt-ltb 0 (suc (length owners)) (omega arith)) refl)
      | inr other ↦ rw (ne_eqb owner process other) (grind (arith, nat_tests))
    ]

-- an owner's rounds are those of the first owner or of a later one
rounds-cons-le : (owner r process : ℕ) (owners : List ℕ)
    → cond (is_some (position (λ o. o == process) (owner ∷ owners))) r 0
    ≤ cond (owner == process) r 0 + cond (is_some (position (λ o. o == process) owners)) r 0
rounds-cons-le owner r process owners =
    rw (is_some-position owner process owners) (rounds_cases (owner == process) (is_some (position (λ o. o == process) owners)) r)
  where
    rounds_cases : (here later : Bool) (r : ℕ) → cond (cond here true later) r 0 ≤ cond here r 0 + cond later r 0
    rounds_cases true later r = omega arith
    rounds_cases false later r = omega arith

-- the rounds of an account stand at most once for each of its owners
rounds_of_owners : (r n : ℕ) (owners : List ℕ)
    → sum_by (λ p. cond (is_some (position (λ o. o == p) owners)) r 0) (range_with_len 0 n) ≤ length owners * r
rounds_of_owners r n [] = omega (arith, sum_by-range_const 0 0 n)
rounds_of_owners r n (owner ∷ owners) =
    let range = range_with_len 0 n in
    let f = λ (p : ℕ). cond (owner == p) r 0 in
    let g = λ (p : ℕ). cond (is_some (position (λ o. o == p) owners)) r 0 in
    let split = sum_by-le-sum_by (λ p. cond (is_some (position (λ o. o == p) (owner ∷ owners))) r 0) (λ p. f p + g p) range (λ p. rounds-cons-le owner r p owners) in
    omega (arith, split, sum_by-add f g range, (one_of_range owner r 0 n).1, rounds_of_owners r n owners)

-- all processes' rounds of all accounts
rounds_of_processes : (q n : ℕ) (accounts : List AccountTerms) → All (λ t. length t.owners ≤ 8) accounts
    → sum_by (λ p. sum_by (rounds_room_of q p) accounts) (range_with_len 0 n) ≤ 8 * sum_by (rounds_room q) accounts
rounds_of_processes q n [] few = omega (arith, sum_by-range_const 0 0 n)
rounds_of_processes q n (t ∷ ts) few =
    let range = range_with_len 0 n in
    let split : sum_by (λ p. sum_by (rounds_room_of q p) (t ∷ ts)) range ≡ sum_by (λ p. rounds_room_of q p t + sum_by (rounds_room_of q p) ts) range =
    λ i. sum_by (λ p. sum_by-cons (rounds_room_of q p) t ts i) range in
    let one = rounds_of_owners (rounds_room q t) n t.owners in
    let bound = mul-le (length t.owners) (rounds_room q t) 8 (rounds_room q t) (All-head (λ s. length s.owners ≤ 8) t ts few) (omega arith) in
    omega (
      arith,
      split,
      sum_by-add (λ p. rounds_room_of q p t) (λ p. sum_by (rounds_room_of q p) ts) range,
      one,
      bound,
      rounds_of_processes q n ts (All-tail (λ s. length s.owners ≤ 8) t ts few),
      sum_by-cons (rounds_room q) t ts,
    )

-- all logs together
pub sum-log_room_of : (b : BookTerms) → IsBegun b → sum_by (log_room_of b) (range_with_len 0 b.processes) ≤ 131072
sum-log_room_of b begun =
    let range = range_with_len 0 b.processes in
    let few : All (λ t. length t.owners ≤ 8) b.accounts = λ k d within. (begun.accounts k d within).few in
    let own = mul-le b.processes b.own_room 16 4096 begun.few_processes begun.own_room in
    omega (
      arith,
      sum_by-add (λ (p : ℕ). b.own_room) (λ p. sum_by (rounds_room_of b.request_room p) b.accounts) range,
      sum_by-range_const b.own_room 0 b.processes,
      own,
      rounds_of_processes b.request_room b.processes b.accounts few,
      begun.rounds,
    )

-- no list is longer than all logs together
pub length-ArePublishedBy : (b : BookTerms) (list : List Publication) → IsBegun b → ArePublishedBy b.processes list
    → ((p : ℕ) → p < b.processes → count_of p list ≤ log_room_of b p) → length list ≤ places_max
unfolding counts
length-ArePublishedBy b list begun known room =
    let range = range_with_len 0 b.processes in
    omega (
      arith,
      sum-counts b.processes list known,
      sum-map (λ p. count_of p list) range,
      sum_by-range-le (λ p. count_of p list) (log_room_of b) 0 b.processes (λ p below. room p (omega arith)),
      sum-log_room_of b begun,
    )

-- the log of one process
pub log_room_of-le : (b : BookTerms) (p : ℕ) → IsBegun b → log_room_of b p ≤ 12288
log_room_of-le b p begun =
    let rounds = sum_by-le-sum_by (rounds_room_of b.request_room p) (rounds_room b.request_room) b.accounts (λ t. rounds_room_of-le b.request_room p t) in
    omega (arith, rounds, begun.rounds, begun.own_room)
