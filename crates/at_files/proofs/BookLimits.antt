-- A checked book has no fault.
use Rattle.std.proofs.Common.{◌≡◌, ℕ, ◌+◌, ◌^◌, ◌<◌, ◌≤◌, true, false, ◌==◌, nat_lt, nat_le, List, [], ◌∷◌, length, All, None, sum_by, refl, length-append, arith}
use Rattle.at_files.proofs.Prelude.{nat_tests, All-head, All-tail, sum_by-cons, sum_by_push, AccountTerms, IsRisingFrom, rounds_room, BookTerms, IsAccount, IsBook, rounds_of, total_of, limits_fault, owner_fault, owners_fault, account_fault, accounts_fault, with_account, book_without_accounts, most_accounts, most_own_room, most_owners, most_processes, most_request_room, most_rounds}

owner_fault-free : (processes account count least owner : ℕ) → owner < processes → least ≤ owner → count < most_owners → owner_fault processes account count least owner ≡ None
owner_fault-free processes account count least owner known rising few =
    let one : nat_le processes owner ≡ false = grind (arith, nat_tests) in
    let two : nat_lt owner least ≡ false = grind (arith, nat_tests) in
    let three : nat_le most_owners count ≡ false = grind (arith, nat_tests) in
    rw (one, two, three) refl

owners_fault-none : (processes account count least : ℕ) (owners : List ℕ) → All (λ owner. owner < processes) owners → IsRisingFrom least owners
    → count + length owners ≤ most_owners → owners_fault processes account count least owners ≡ None
unfolding owners_fault IsRisingFrom
owners_fault-none processes account count least [] known rising few = refl
owners_fault-none processes account count least (owner ∷ owners) known rising few =
    rw (owner_fault-free processes account count least owner (All-head (λ o. o < processes) owner owners known) rising.0 (omega arith))
    (owners_fault-none processes account (count + 1) (owner + 1) owners (All-tail (λ o. o < processes) owner owners known) rising.1 (omega arith))

account_fault-none : (b : BookTerms) (t : AccountTerms) → length b.accounts < most_accounts → IsAccount b.processes t
    → rounds_of b + rounds_room b.request_room t ≤ most_rounds → total_of b + t.opening < 2 ^ 64 → account_fault b t ≡ None
account_fault-none b t room is rounds total =
    let one : nat_le most_accounts (length b.accounts) ≡ false = grind (arith, nat_tests) in
    let two : nat_lt most_rounds (rounds_of b + rounds_room b.request_room t) ≡ false = grind (arith, nat_tests) in
    let three : nat_le (2 ^ 64) (total_of b + t.opening) ≡ false = grind (arith, nat_tests) in
    let owners = owners_fault-none b.processes (length b.accounts) 0 0 t.owners is.known is.rising (omega (arith, is.few)) in
    rw (one, owners, two, three) refl

-- what is left of a book to which accounts are still to be added
record Fit (b : BookTerms) (ts : List AccountTerms) : Type 0 where
  accounts : All (IsAccount b.processes) ts
  few : length b.accounts + length ts ≤ most_accounts
  rounds : rounds_of b + sum_by (rounds_room b.request_room) ts ≤ most_rounds
  total : total_of b + sum_by (λ t. t.opening) ts < 2 ^ 64
  some : 1 ≤ length b.accounts + length ts

-- the sums with one more account
rounds_of-with_account : (b : BookTerms) (t : AccountTerms) → rounds_of (with_account b t) ≡ rounds_of b + rounds_room b.request_room t
rounds_of-with_account b t = sum_by_push (rounds_room b.request_room) b.accounts t

total_of-with_account : (b : BookTerms) (t : AccountTerms) → total_of (with_account b t) ≡ total_of b + t.opening
total_of-with_account b t = sum_by_push (λ (x : AccountTerms). x.opening) b.accounts t

Fit-tail : (b : BookTerms) (t : AccountTerms) (ts : List AccountTerms) → Fit b (t ∷ ts) → Fit (with_account b t) ts
Fit-tail b t ts fit = record {
  accounts = All-tail (IsAccount b.processes) t ts fit.accounts;
  few = let h = fit.few in omega (arith, length-append b.accounts (t ∷ []));
  rounds = let h = fit.rounds in omega (arith, rounds_of-with_account b t, sum_by-cons (rounds_room b.request_room) t ts);
  total = let h = fit.total in omega (arith, total_of-with_account b t, sum_by-cons (λ (x : AccountTerms). x.opening) t ts);
  some = let h = fit.some in omega (arith, length-append b.accounts (t ∷ []));
}

accounts_fault-none : (b : BookTerms) (ts : List AccountTerms) → Fit b ts → accounts_fault b ts ≡ None
unfolding accounts_fault
accounts_fault-none b [] fit =
    let some : (length b.accounts == 0) ≡ false = let h : 1 ≤ length b.accounts + 0 = fit.some in grind (arith, nat_tests) in
    rw some refl
accounts_fault-none b (t ∷ ts) fit =
    rw (account_fault-none b t (let h = fit.few in omega arith) (All-head (IsAccount b.processes) t ts fit.accounts) (let h = fit.rounds in omega (arith, sum_by-cons (rounds_room b.request_room) t ts)) (let h = fit.total in omega (arith, sum_by-cons (λ (x : AccountTerms). x.opening) t ts)))
    (accounts_fault-none (with_account b t) ts (Fit-tail b t ts fit))

pub accounts_fault-IsBook : (b : BookTerms) → IsBook b → accounts_fault (book_without_accounts b.processes b.own_room b.request_room) b.accounts ≡ None
accounts_fault-IsBook b is =
    accounts_fault-none (book_without_accounts b.processes b.own_room b.request_room) b.accounts (record {
      accounts = is.begun.accounts;
      few = omega (arith, is.begun.few_accounts);
      rounds = omega (arith, is.begun.rounds);
      total = omega (arith, is.begun.total);
      some = omega (arith, is.some_account);
    })

pub limits_fault-within : (processes own_room request_room : ℕ) → 1 ≤ processes → processes ≤ most_processes → 1 ≤ own_room → own_room ≤ most_own_room
    → 1 ≤ request_room → request_room ≤ most_request_room → limits_fault processes own_room request_room ≡ None
limits_fault-within processes own_room request_room some few one most any all =
    let none : (processes == 0) ≡ false = grind (arith, nat_tests) in
    let many : nat_lt most_processes processes ≡ false = grind (arith, nat_tests) in
    let a : nat_le 1 own_room ≡ true = grind (arith, nat_tests) in
    let b : nat_le own_room most_own_room ≡ true = grind (arith, nat_tests) in
    let c : nat_le 1 request_room ≡ true = grind (arith, nat_tests) in
    let d : nat_le request_room most_request_room ≡ true = grind (arith, nat_tests) in
    rw (none, many, a, b, c, d) refl
