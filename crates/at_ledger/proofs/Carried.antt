-- A book with other openings.
use Rattle.std.proofs.Common.{◌≡◌, ℕ, List, [], ◌∷◌, suc, length, map, refl, ◌∙◌, arith}
use Rattle.at_ledger.proofs.Prelude.{All, All-nil, All-cons, sum_by, sum_by-cons, zip, length-map, length-zip, AccountTerms, rounds_room, BookTerms, IsAccount, IsBook, total_of, with_openings}
use Rattle.std.specs.Prelude.{sum}

-- an account that opens with a number
abbrev pub opened : AccountTerms × ℕ → AccountTerms
opened p = record p.0 { opening = p.1 }

-- accounts that open with these numbers
abbrev all_opened : List AccountTerms → List ℕ → List AccountTerms
all_opened accounts openings = map opened (zip accounts openings)

sum-all_opened : (accounts : List AccountTerms) (openings : List ℕ) → length openings ≡ length accounts
    → sum_by (λ (t : AccountTerms). t.opening) (all_opened accounts openings) ≡ sum openings
sum-all_opened [] [] same = refl
sum-all_opened [] (n ∷ openings) same = absurd (omega (arith, same))
sum-all_opened (t ∷ accounts) [] same = absurd (omega (arith, same))
sum-all_opened (t ∷ accounts) (n ∷ openings) same =
    omega (
      arith,
      sum_by-cons (λ (a : AccountTerms). a.opening) (opened (t, n)) (all_opened accounts openings),
      sum_by-cons (λ (m : ℕ). m) n openings,
      sum-all_opened accounts openings (omega (arith, same)),
    )

rounds-all_opened : (room : ℕ) (accounts : List AccountTerms) (openings : List ℕ) → length openings ≡ length accounts
    → sum_by (rounds_room room) (all_opened accounts openings) ≡ sum_by (rounds_room room) accounts
rounds-all_opened room [] [] same = refl
rounds-all_opened room [] (n ∷ openings) same = absurd (omega (arith, same))
rounds-all_opened room (t ∷ accounts) [] same = absurd (omega (arith, same))
rounds-all_opened room (t ∷ accounts) (n ∷ openings) same =
    omega (
      arith,
      sum_by-cons (rounds_room room) (opened (t, n)) (all_opened accounts openings),
      sum_by-cons (rounds_room room) t accounts,
      rounds-all_opened room accounts openings (omega (arith, same)),
    )

accounts-all_opened : (processes : ℕ) (accounts : List AccountTerms) (openings : List ℕ) → length openings ≡ length accounts
    → All (IsAccount processes) accounts → All (IsAccount processes) (all_opened accounts openings)
accounts-all_opened processes [] openings same known = All-nil _
accounts-all_opened processes (t ∷ accounts) [] same known = All-nil _
accounts-all_opened processes (t ∷ accounts) (n ∷ openings) same known =
    let first : IsAccount processes t = known 0 t (omega arith) in
    All-cons (IsAccount processes) (opened (t, n)) (all_opened accounts openings) (record { known = first.known; rising = first.rising; few = first.few })
    (accounts-all_opened processes accounts openings (omega (arith, same)) (λ i d within. known (suc i) d (omega (arith, within))))

-- it is a book with the same total, where the openings have that
pub total-with_openings : (b : BookTerms) (openings : List ℕ) → length openings ≡ length b.accounts → sum openings ≡ total_of b
    → total_of (with_openings b openings) ≡ total_of b
total-with_openings b openings count total = sum-all_opened b.accounts openings count ∙ total

pub IsBook-with_openings : (b : BookTerms) (openings : List ℕ) → IsBook b → length openings ≡ length b.accounts → sum openings ≡ total_of b
    → IsBook (with_openings b openings)
IsBook-with_openings b openings is count total =
    let begun = is.begun in
    let long : length (all_opened b.accounts openings) ≡ length b.accounts =
    omega (arith, length-map (zip b.accounts openings) opened, length-zip b.accounts openings, count) in
    record {
      begun = record {
        some_process = begun.some_process;
        few_processes = begun.few_processes;
        some_own_room = begun.some_own_room;
        own_room = begun.own_room;
        some_request_room = begun.some_request_room;
        request_room = begun.request_room;
        few_accounts = omega (arith, long, begun.few_accounts);
        accounts = accounts-all_opened b.processes b.accounts openings count begun.accounts;
        rounds = omega (arith, rounds-all_opened b.request_room b.accounts openings count, begun.rounds);
        total = omega (arith, total-with_openings b openings count total, begun.total);
      };
      some_account = omega (arith, long, is.some_account);
    }
