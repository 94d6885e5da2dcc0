-- The generator's book breaks no limit.
use Rattle.std.proofs.Common.{◌≡◌, ℕ, ◌+◌, ◌*◌, ◌^◌, ◌<◌, ◌≤◌, zero, suc, false, None, List, [], ◌∷◌, ◌++◌, map, length, nat_le, nat_lt, refl, ap, arith, sum_by}
use Rattle.at_commands.proofs.Prelude.{range_with_len, cond_both, le-ltb, lt-leb, length-map-range_with_len, length-range_with_len, map-range_with_len_more, sum_by-cons, AccountTerms, rounds_room, rounds_of, total_of, account_fault, owner_fault, owners_fault, with_account, most_accounts, most_owners, most_rounds, mul-le-mul, mul_comm, suc-mul, MayMake, book_of_own_accounts, joint_terms, own_terms}

-- an owner that is a process, high enough and not the ninth has no fault
owner_fault_none : (processes account count least owner : ℕ) → owner < processes → least ≤ owner → count < 8 → owner_fault processes account count least owner ≡ None
owner_fault_none processes account count least owner known rising few = rw (lt-leb processes owner known, le-ltb owner least rising, lt-leb most_owners count few) refl

-- processes one after another have no fault
owners_fault-range : (processes account k n : ℕ) → k + n ≤ processes → k + n ≤ 8 → owners_fault processes account k k (range_with_len k n) ≡ None
unfolding owners_fault
owners_fault-range processes account k zero known few = refl
owners_fault-range processes account k (suc n) known few =
    let first : owner_fault processes account k k k ≡ None = owner_fault_none processes account k k k (omega arith) (omega arith) (omega arith) in
    rw first (owners_fault-range processes account (k + 1) n (omega arith) (omega arith))

owners_fault-one : (processes account owner : ℕ) → owner < processes → owners_fault processes account 0 0 (owner ∷ []) ≡ None
unfolding owners_fault
owners_fault-one processes account owner known =
    let first : owner_fault processes account 0 0 owner ≡ None = owner_fault_none processes account 0 0 owner known (omega arith) (omega arith) in
    rw first refl

-- no process's own account has a round
rounds_of-book_of_own_accounts : (processes calls n : ℕ) → rounds_of (book_of_own_accounts processes calls n) ≡ 0
rounds_of-book_of_own_accounts processes calls n = rounds_none calls 0 n
  where
    rounds_none : (calls a n : ℕ) → sum_by (rounds_room calls) (map (own_terms calls) (range_with_len a n)) ≡ 0
    rounds_none calls a zero = refl
    rounds_none calls a (suc n) = rounds_none calls (a + 1) n

total_of-book_of_own_accounts : (processes calls n : ℕ) → total_of (book_of_own_accounts processes calls n) ≡ n * (100 * calls)
total_of-book_of_own_accounts processes calls n = total_from calls 0 n
  where
    total_from : (calls a n : ℕ) → sum_by (λ (t : AccountTerms). t.opening) (map (own_terms calls) (range_with_len a n)) ≡ n * (100 * calls)
    total_from calls a zero = omega arith
    total_from calls a (suc n) =
        let first = sum_by-cons (λ (t : AccountTerms). t.opening) (own_terms calls a) (map (own_terms calls) (range_with_len (a + 1) n)) in
        let rest = total_from calls (a + 1) n in
        omega (arith, first, rest, suc-mul n (100 * calls))

length-book_of_own_accounts : (processes calls n : ℕ) → length (book_of_own_accounts processes calls n).accounts ≡ n
length-book_of_own_accounts processes calls n = length-map-range_with_len (own_terms calls) 0 n

-- the own account of the next process
pub account_fault-own : (processes calls n : ℕ) → MayMake processes calls → n < processes
    → account_fault (book_of_own_accounts processes calls n) (own_terms calls n) ≡ None
account_fault-own processes calls n may below =
    let count = length-book_of_own_accounts processes calls n in
    let rounds = rounds_of-book_of_own_accounts processes calls n in
    let total = total_of-book_of_own_accounts processes calls n in
    let room : nat_le most_accounts (length (book_of_own_accounts processes calls n).accounts) ≡ false = lt-leb _ _ (omega (arith, may, count)) in
    let owners = owners_fault-one processes (length (book_of_own_accounts processes calls n).accounts) n below in
    let few : n ≤ 8 = omega (arith, may) in
    let each : 100 * calls ≤ 100 * 1000 = omega (arith, may) in
    let product : n * (100 * calls) ≤ 8 * (100 * 1000) = mul-le-mul few each in
    let few_rounds : nat_lt most_rounds (rounds_of (book_of_own_accounts processes calls n) + rounds_room calls (own_terms calls n)) ≡ false = le-ltb _ _ (omega (arith, rounds)) in
    let few_total : nat_le (2 ^ 64) (total_of (book_of_own_accounts processes calls n) + 100 * calls) ≡ false = lt-leb _ _ (omega (arith, total, may, product)) in
    rw (room, owners, few_rounds, few_total) refl

-- the rounds of an account of so many processes
rounds_room-joint : (processes calls : ℕ) → MayMake processes calls → rounds_room calls (joint_terms processes calls) ≤ most_rounds
rounds_room-joint processes calls may =
    let owners = length-range_with_len 0 processes in
    let product : processes * calls ≤ 8 * 1000 = mul-le-mul may.few_processes may.few_calls in
    rw owners (cond_both (nat_le 2 processes) (processes * calls) 0 (λ n. n ≤ most_rounds) (λ _. omega (arith, product)) (λ _. omega arith))

-- the account of all processes
pub account_fault-joint : (processes calls : ℕ) → MayMake processes calls
    → account_fault (book_of_own_accounts processes calls processes) (joint_terms processes calls) ≡ None
account_fault-joint processes calls may =
    let b = book_of_own_accounts processes calls processes in
    let count = length-book_of_own_accounts processes calls processes in
    let rounds = rounds_of-book_of_own_accounts processes calls processes in
    let total = total_of-book_of_own_accounts processes calls processes in
    let room : nat_le most_accounts (length b.accounts) ≡ false = lt-leb _ _ (omega (arith, may, count)) in
    let owners = owners_fault-range processes (length b.accounts) 0 processes (omega arith) (omega (arith, may)) in
    let each : 100 * calls ≤ 100 * 1000 = omega (arith, may) in
    let product : processes * (100 * calls) ≤ 8 * (100 * 1000) = mul-le-mul may.few_processes each in
    let turned : 100 * calls * processes ≡ processes * (100 * calls) = mul_comm (100 * calls) processes in
    let few_rounds : nat_lt most_rounds (rounds_of b + rounds_room calls (joint_terms processes calls)) ≡ false =
    le-ltb _ _ (omega (arith, rounds, rounds_room-joint processes calls may)) in
    let few_total : nat_le (2 ^ 64) (total_of b + 100 * calls * processes) ≡ false = lt-leb _ _ (omega (arith, total, product, turned)) in
    rw (room, owners, few_rounds, few_total) refl

-- one more account
pub with_account-book_of_own_accounts : (processes calls n : ℕ) → with_account (book_of_own_accounts processes calls n) (own_terms calls n) ≡ book_of_own_accounts processes calls (n + 1)
with_account-book_of_own_accounts processes calls n =
    let more = map-range_with_len_more (own_terms calls) 0 n n (omega arith) in
    rw more refl

-- one more process
pub range_with_len_more : (a n j : ℕ) → a + n ≡ j → range_with_len a (n + 1) ≡ range_with_len a n ++ j ∷ []
range_with_len_more a zero j is = let at : a ≡ j = omega arith in rw at refl
range_with_len_more a (suc n) j is =
    let next : suc n + 1 ≡ suc (n + 1) = omega arith in
    rw next (ap (λ (rest : List ℕ). a ∷ rest) (range_with_len_more (a + 1) n j (omega arith)))
