-- Rows of sums, and the records that they give.
use Rattle.std.proofs.Common.{◌≡◌, ℕ, zero, suc, ◌+◌, ◌<◌, ◌≤◌, ◌^◌, ◌⊎◌, inl, inr, List, [], ◌∷◌, ◌++◌, All, flat_map, length, map, get_or, sum_by, refl, sym, ap, ◌∙◌, subst, arith}
use Rattle.std.specs.Prelude.{slice_index}
use Rattle.at_tables.proofs.Prelude.{cases_lt, get_or_append_left, get_or-append_seam, length-append, range_with_len, sum_by-cons, IsAccount, no_account, BookTerms, account_of, Call, NameList, Words, AreSumRows, HaveSums, account_fields, needs_of_account, needs_records, owner_asks, owner_fields, owner_records}

-- a row of one more process: it is one of those before, or the last
row-more : (rows : List (List ℕ)) (row : List ℕ) (q : ℕ) (Holds : List ℕ → Type 0) → q < length rows + 1
    → (q < length rows → Holds (get_or rows q [])) → (q ≡ length rows → Holds row) → Holds (get_or (rows ++ row ∷ []) q [])
row-more rows row q Holds below before last = by (cases_lt q (length rows)) where
  by : (q < length rows) ⊎ (length rows ≤ q) → Holds (get_or (rows ++ row ∷ []) q [])
  by (inl less) = subst Holds (sym (get_or_append_left rows (row ∷ []) [] q less)) (before less)
  by (inr more) =
      let same : q ≡ length rows = omega (arith, below, more) in
      subst Holds (sym (ap (λ (i : ℕ). get_or (rows ++ row ∷ []) i []) same ∙ get_or-append_seam rows row [] [])) (last same)

pub sum_rows-more : (b : BookTerms) (rows : List (List ℕ)) (row : List ℕ) (p : ℕ) → AreSumRows b rows p → length row ≡ length b.accounts
    → ((a : ℕ) → a < length b.accounts → slice_index row a ≤ 2 ^ 80) → AreSumRows b (rows ++ row ∷ []) (p + 1)
sum_rows-more b rows row p are accounts small = record {
  count = length-append rows (row ∷ []) ∙ ap (λ (n : ℕ). n + 1) are.count;
  accounts = λ q below.
      row-more rows row q (λ (r : List ℕ). length r ≡ length b.accounts) (omega (arith, below, are.count))
      (λ less. are.accounts q (omega (arith, less, are.count))) (λ same. accounts);
  small = λ q below.
      row-more rows row q (λ (r : List ℕ). (a : ℕ) → a < length b.accounts → slice_index r a ≤ 2 ^ 80) (omega (arith, below, are.count))
      (λ less. are.small q (omega (arith, less, are.count))) (λ same. small);
}

pub have_sums-more : (b : BookTerms) (files : List (List Call)) (rows : List (List ℕ)) (row : List ℕ) (p : ℕ) → length rows ≡ p → HaveSums b files rows p
    → ((a : ℕ) → a < length b.accounts → slice_index row a ≡ owner_asks b files a p) → HaveSums b files (rows ++ row ∷ []) (p + 1)
have_sums-more b files rows row p count have asked q below =
    row-more rows row q (λ (r : List ℕ). (a : ℕ) → a < length b.accounts → slice_index r a ≡ owner_asks b files a q) (omega (arith, below, count))
    (λ less. have q (omega (arith, less, count)))
    (λ same a within. asked a within ∙ ap (owner_asks b files a) (sym (same ∙ count)))

-- records are the same of sums that are the same for the owners
owners-same : (names : NameList) (fields : Words) (asks others : ℕ → ℕ) (owners : List ℕ) → All (λ owner. asks owner ≡ others owner) owners
    → map (owner_fields names fields asks) owners ≡ map (owner_fields names fields others) owners
owners-same names fields asks others [] same = refl
owners-same names fields asks others (owner ∷ owners) same =
    rw (same 0 0 (omega arith), owners-same names fields asks others owners (λ k d within. same (suc k) d (omega (arith, within)))) refl

sums-same : (asks others : ℕ → ℕ) (owners : List ℕ) → All (λ owner. asks owner ≡ others owner) owners → sum_by asks owners ≡ sum_by others owners
sums-same asks others [] same = refl
sums-same asks others (owner ∷ owners) same =
    omega (
      arith,
      sum_by-cons asks owner owners,
      sum_by-cons others owner owners,
      same 0 0 (omega arith),
      sums-same asks others owners (λ k d within. same (suc k) d (omega (arith, within))),
    )

records-same : (names : NameList) (fields : Words) (asks others : ℕ → ℕ) (owners : List ℕ) → All (λ owner. asks owner ≡ others owner) owners
    → owner_records names fields asks owners ≡ owner_records names fields others owners
records-same names fields asks others [] same = refl
records-same names fields asks others (owner ∷ owners) same = owners-same names fields asks others (owner ∷ owners) same

account-same : (b : BookTerms) (names : NameList) (asks others : ℕ → ℕ) (a : ℕ) → All (λ owner. asks owner ≡ others owner) (account_of b a).owners
    → needs_of_account b names asks a ≡ needs_of_account b names others a
account-same b names asks others a same =
    let owners : List ℕ = (account_of b a).owners in
    ap (λ (sum : ℕ). owner_records names (account_fields b names a sum) asks owners) (sums-same asks others owners same)
    ∙ records-same names (account_fields b names a (sum_by others owners)) asks others owners same

flat_map-same : (f g : ℕ → List Words) (a n : ℕ) → ((k : ℕ) → k < a + n → f k ≡ g k) → flat_map f (range_with_len a n) ≡ flat_map g (range_with_len a n)
flat_map-same f g a zero same = refl
flat_map-same f g a (suc n) same =
    rw (same a (omega arith), flat_map-same f g (a + 1) n (λ k below. same k (omega (arith, below)))) refl

-- the records are those of any sums that are the same for the accounts of the book and their owners
pub needs_records-same : (b : BookTerms) (names : NameList) (asks others : ℕ → ℕ → ℕ)
    → ((a owner : ℕ) → a < length b.accounts → owner < b.processes → asks a owner ≡ others a owner) → All (IsAccount b.processes) b.accounts
    → (n : ℕ) → n ≤ length b.accounts → needs_records b names asks n ≡ needs_records b names others n
needs_records-same b names asks others same known n few =
    flat_map-same (λ a. needs_of_account b names (asks a) a) (λ a. needs_of_account b names (others a) a) 0 n (λ a below.
    account-same b names (asks a) (others a) a (λ k d within. same a _ (omega (arith, below, few)) ((known a no_account (omega (arith, below, few))).known k d within)))
