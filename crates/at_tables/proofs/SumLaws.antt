-- Payments of sets of owners, added up over accounts or over calls.
use Rattle.std.proofs.Common.{◌≡◌, ◌≢◌, ℕ, zero, suc, ◌+◌, ◌*◌, ◌<◌, ◌≤◌, ◌^◌, ◌⊎◌, inl, inr, Bool, true, false, ◌&&◌, ◌==◌, cond, List, [], ◌∷◌, length, map, sum, count_by, refl, sym, ap, subst, ◌∙◌, arith, bytes_eq}
use Rattle.std.specs.Prelude.{nat_le, slice_index, slice_index_or}
use Rattle.at_tables.proofs.Prelude.{range_with_len, le-leb, nat_tests, get_or_past, sum_by-cons, sum_by-map-range_with_len_more, first_account, AccountTerms, is_owner_in, is_shared, no_account, BookTerms, account_of, Call, Transfer, Read, Pay, count_first, count_in, count_in_file, is_agreed_kind, is_owner_kind, is_by_owner_of, kind_of, is_agreed_by, is_shared_by, part_of, sum_first}
use Rattle.at_tables.specs.declared.kind.Kind.TheVariants as kinds

-- one where it is so, and a number where it is so
abbrev one_if : Bool → ℕ
one_if test = cond test 1 0

abbrev pub count_if : Bool → ℕ → ℕ
count_if test n = cond test n 0

-- a sum over the first numbers
abbrev pub over : ℕ → (ℕ → ℕ) → ℕ
over n f = sum (map f (range_with_len 0 n))

pub over-suc : (n : ℕ) (f : ℕ → ℕ) → over (suc n) f ≡ over n f + f n
over-suc n f =
    let next : n + 1 ≡ suc n = omega arith in
    let Adds : ℕ → Type 0 = λ k. over k f ≡ over n f + f n in
    subst Adds next (sum_by-map-range_with_len_more (λ (k : ℕ). k) f 0 n n (omega arith))

count_first-suc : (test : ℕ → Call → Bool) (files : List (List Call)) (p : ℕ) → count_first test files (suc p) ≡ count_first test files p + count_in_file test files p
count_first-suc test files p = over-suc p (count_in_file test files)

over-same : (n : ℕ) (f g : ℕ → ℕ) → ((a : ℕ) → f a ≡ g a) → over n f ≡ over n g
over-same zero f g same = refl
over-same (suc n) f g same = omega (arith, over-suc n f, over-suc n g, over-same n f g same, same n)

over-add : (n : ℕ) (f g : ℕ → ℕ) → over n (λ a. f a + g a) ≡ over n f + over n g
over-add zero f g = refl
over-add (suc n) f g = omega (arith, over-suc n f, over-suc n g, over-suc n (λ a. f a + g a), over-add n f g)

over-none : (n : ℕ) (f : ℕ → ℕ) → ((a : ℕ) → a < n → f a ≡ 0) → over n f ≡ 0
over-none zero f none = refl
over-none (suc n) f none = omega (arith, over-suc n f, over-none n f (λ a below. none a (omega arith)), none n (omega arith))

-- at one number alone
over-one : (n x : ℕ) (f : ℕ → ℕ) → x < n → ((a : ℕ) → a ≢ x → f a ≡ 0) → over n f ≡ f x
over-one zero x f within others = absurd (omega arith)
over-one (suc n) x f within others = at_end (λ before. over-one n x f before others) (let split : (x < n) ⊎ (n ≡ x) = grind arith in split)
  where
    at_end : (x < n → over n f ≡ f x) → (x < n) ⊎ (n ≡ x) → over (suc n) f ≡ f x
    at_end below (inl before) = omega (arith, over-suc n f, below before, others n (omega arith))
    at_end below (inr last) = omega (arith, over-suc n f, over-none n f (λ a under. others a (omega arith)), ap f last)

cond-add : (g : Bool) (x y : ℕ) → count_if g (x + y) ≡ count_if g x + count_if g y
cond-add true x y = refl
cond-add false x y = refl

cond-zero : (g : Bool) → count_if g 0 ≡ 0
cond-zero true = refl
cond-zero false = refl

-- a call at another account
elsewhere : (g by : Bool) (x a : ℕ) → a ≢ x → count_if g (one_if (by && (x == a))) ≡ 0
elsewhere true true x a other = grind (arith, nat_tests)
elsewhere true false x a other = refl
elsewhere false by x a other = refl

here : (g by : Bool) (x : ℕ) → count_if g (one_if (by && (x == x))) ≡ one_if (g && by)
here true true x = grind (arith, nat_tests)
here true false x = refl
here false by x = refl

-- what owners of a shared account pay is agreed on
agreed_alike : (owner shared these : Bool)
    → one_if ((shared && these) && is_owner_kind (cond owner (cond shared kinds.Agreed kinds.Alone) kinds.Refused))
    ≡ one_if (is_agreed_kind (cond owner (cond shared kinds.Agreed kinds.Alone) kinds.Refused) && these)
agreed_alike true true true = refl
agreed_alike true true false = refl
agreed_alike true false true = refl
agreed_alike true false false = refl
agreed_alike false true true = refl
agreed_alike false true false = refl
agreed_alike false false true = refl
agreed_alike false false false = refl

no_read : (shared these : Bool) → one_if ((shared && these) && false) ≡ 0
no_read true true = refl
no_read true false = refl
no_read false these = refl

at_account : (b : BookTerms) (owners : List ℕ) (p : ℕ) (call : Call)
    → one_if (is_shared_by owners (account_of b (first_account call)) && is_owner_kind (kind_of b p call)) ≡ one_if (is_agreed_by owners b p call)
at_account b owners p (Transfer from to amount) = let t = account_of b from in agreed_alike (is_owner_in t p) (is_shared t) (bytes_eq t.owners owners)
at_account b owners p (Read account) = let t = account_of b account in no_read (is_shared t) (bytes_eq t.owners owners)
at_account b owners p (Pay from targets) = let t = account_of b from in agreed_alike (is_owner_in t p) (is_shared t) (bytes_eq t.owners owners)

-- no account that the book lacks has owners
past_accounts : (b : BookTerms) (owners : List ℕ) (p : ℕ) (call : Call) → length b.accounts ≤ first_account call → one_if (is_agreed_by owners b p call) ≡ 0
past_accounts b owners p call past =
    let none : account_of b (first_account call) ≡ no_account = get_or_past b.accounts (first_account call) no_account past in
    sym (at_account b owners p call) ∙ ap (λ (t : AccountTerms). one_if (is_shared_by owners t && is_owner_kind (kind_of b p call))) none

abbrev one_of : BookTerms → List ℕ → ℕ → Call → ℕ → ℕ
one_of b owners p call a = count_if (is_shared_by owners (account_of b a)) (one_if (is_by_owner_of a b p call))

over_call : (b : BookTerms) (owners : List ℕ) (p : ℕ) (call : Call) → over (length b.accounts) (one_of b owners p call) ≡ one_if (is_agreed_by owners b p call)
over_call b owners p call = by_place (let split : (first_account call < length b.accounts) ⊎ (length b.accounts ≤ first_account call) = grind arith in split)
  where
    others : (a : ℕ) → a ≢ first_account call → one_of b owners p call a ≡ 0
    others a other = elsewhere (is_shared_by owners (account_of b a)) (is_owner_kind (kind_of b p call)) (first_account call) a other

    by_place : (first_account call < length b.accounts) ⊎ (length b.accounts ≤ first_account call) → over (length b.accounts) (one_of b owners p call) ≡ one_if (is_agreed_by owners b p call)
    by_place (inl within) =
        over-one (length b.accounts) (first_account call) (one_of b owners p call) within others
        ∙ here (is_shared_by owners (account_of b (first_account call))) (is_owner_kind (kind_of b p call)) (first_account call)
        ∙ at_account b owners p call
    by_place (inr past) =
        over-none (length b.accounts) (one_of b owners p call) (λ a below. others a (omega arith)) ∙ sym (past_accounts b owners p call past)

abbrev calls_of : BookTerms → List ℕ → ℕ → List Call → ℕ → ℕ
calls_of b owners p calls a = count_if (is_shared_by owners (account_of b a)) (count_by (is_by_owner_of a b p) calls)

over_calls : (b : BookTerms) (owners : List ℕ) (p : ℕ) (calls : List Call) → over (length b.accounts) (calls_of b owners p calls) ≡ count_by (is_agreed_by owners b p) calls
over_calls b owners p [] = over-none (length b.accounts) (calls_of b owners p []) (λ a below. cond-zero (is_shared_by owners (account_of b a)))
over_calls b owners p (call ∷ calls) =
    let parts : (a : ℕ) → calls_of b owners p (call ∷ calls) a ≡ one_of b owners p call a + calls_of b owners p calls a = λ a.
    ap (λ (n : ℕ). count_if (is_shared_by owners (account_of b a)) n) (sum_by-cons (λ (x : Call). one_if (is_by_owner_of a b p x)) call calls)
    ∙ cond-add (is_shared_by owners (account_of b a)) (one_if (is_by_owner_of a b p call)) (count_by (is_by_owner_of a b p) calls) in
    omega (
      arith,
      over-same (length b.accounts) (calls_of b owners p (call ∷ calls)) (λ a. one_of b owners p call a + calls_of b owners p calls a) parts,
      over-add (length b.accounts) (one_of b owners p call) (calls_of b owners p calls),
      over_call b owners p call,
      over_calls b owners p calls,
      sum_by-cons (λ (x : Call). one_if (is_agreed_by owners b p x)) call calls,
    )

abbrev pub files_of : BookTerms → List ℕ → List (List Call) → ℕ → ℕ → ℕ
files_of b owners files m a = count_if (is_shared_by owners (account_of b a)) (count_first (is_by_owner_of a b) files m)

pub over_files : (b : BookTerms) (owners : List ℕ) (files : List (List Call)) (m : ℕ) → over (length b.accounts) (files_of b owners files m) ≡ count_first (is_agreed_by owners b) files m
over_files b owners files zero = over-none (length b.accounts) (files_of b owners files zero) (λ a below. cond-zero (is_shared_by owners (account_of b a)))
over_files b owners files (suc m) =
    let file : List Call = slice_index_or files m [] in
    let parts : (a : ℕ) → files_of b owners files (suc m) a ≡ files_of b owners files m a + calls_of b owners m file a = λ a.
    ap (λ (n : ℕ). count_if (is_shared_by owners (account_of b a)) n) (count_first-suc (is_by_owner_of a b) files m)
    ∙ cond-add (is_shared_by owners (account_of b a)) (count_first (is_by_owner_of a b) files m) (count_by (is_by_owner_of a b m) file) in
    omega (
      arith,
      over-same (length b.accounts) (files_of b owners files (suc m)) (λ a. files_of b owners files m a + calls_of b owners m file a) parts,
      over-add (length b.accounts) (files_of b owners files m) (calls_of b owners m file),
      over_files b owners files m,
      over_calls b owners m file,
      count_first-suc (is_agreed_by owners b) files m,
    )

-- what the owners of accounts pay from them, added up over the accounts that just these owners share, is what they have to agree on
pub sum_first-agreed : (b : BookTerms) (owners counts : List ℕ) (files : List (List Call)) → ((a : ℕ) → slice_index counts a ≡ count_in (is_by_owner_of a b) files)
    → sum_first b counts owners (length b.accounts) ≡ count_in (is_agreed_by owners b) files
sum_first-agreed b owners counts files counted =
    over-same (length b.accounts) (part_of b counts owners) (files_of b owners files (length files)) (λ a. ap (λ (n : ℕ). count_if (is_shared_by owners (account_of b a)) n) (counted a))
    ∙ over_files b owners files (length files)

-- one more account
pub sum_first-more : (b : BookTerms) (counts owners : List ℕ) (n : ℕ) → sum_first b counts owners (n + 1) ≡ sum_first b counts owners n + part_of b counts owners n
sum_first-more b counts owners n = sum_by-map-range_with_len_more (λ (k : ℕ). k) (part_of b counts owners) 0 n n (omega arith)

-- a sum of numbers of 32 bits
pub sum_first-small : (b : BookTerms) (counts owners : List ℕ) (n : ℕ) → ((a : ℕ) → a < n → slice_index counts a < 2 ^ 32) → sum_first b counts owners n ≤ 4294967296 * n
sum_first-small b counts owners zero small = omega arith
sum_first-small b counts owners (suc n) small =
    omega (
      arith,
      over-suc n (part_of b counts owners),
      sum_first-small b counts owners n (λ a below. small a (omega arith)),
      part-small (is_shared_by owners (account_of b n)) (slice_index counts n) (small n (omega arith)),
    )
  where
    part-small : (g : Bool) (x : ℕ) → x < 2 ^ 32 → count_if g x ≤ 4294967296
    part-small true x small = omega arith
    part-small false x small = omega arith

-- an account that two processes or more share, and another
pub part_of-shared : (b : BookTerms) (counts owners : List ℕ) (a : ℕ) → 2 ≤ length (account_of b a).owners → part_of b counts owners a ≡ count_if (bytes_eq (account_of b a).owners owners) (slice_index counts a)
part_of-shared b counts owners a shared = rw (le-leb 2 (length (account_of b a).owners) shared) refl

pub part_of-other : (b : BookTerms) (counts owners : List ℕ) (a : ℕ) → length (account_of b a).owners < 2 → part_of b counts owners a ≡ 0
part_of-other b counts owners a other = let test : nat_le 2 (length (account_of b a).owners) ≡ false = grind (arith, nat_tests) in rw test refl
