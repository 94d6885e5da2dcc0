-- Names and their positions: those of version 1 are the canonical decimals.
use Rattle.std.proofs.Common.{◌≡◌, ℕ, zero, suc, ◌+◌, ◌^◌, ◌<◌, ◌≤◌, Bool, true, false, not, ◌&&◌, nat_le, nat_lt, slice_index, ◌⊎◌, inl, inr, if◌then◌else◌, List, [], ◌∷◌, ◌++◌, length, Some, None, bytes_eq, decimal, get_or, refl, sym, ◌∙◌, ap, subst, arith}
use Rattle.std.specs.Prelude.{Contains, slice_get}
use Rattle.at_files.proofs.Prelude.{is_ascii_lowercase, IsDistinct, list_all, position_or_len, nat_tests, nat_list_eq_equiv, list_any_none, get_or-map-range_with_len, length-map-range_with_len, map-range_with_len_more, position-Some, position_or_len_is, prefix_len_passes, IsDistinct-push, apart_from_distinct, slice_get-get_or, bytes_eq-Decides, number_of, number_of-decimal, BookTerms, most_accounts, most_name_bytes, AreFormed, AreNames, AreNamesOf, decimals_below, has_name, is_name, is_name_byte, position_of, plain_names}
use Rattle.at_files.proofs.FieldLaws.{both_tests}

-- the name at the position that was found
pub position_of-Some : (names : List (List ℕ)) (name : List ℕ) (n : ℕ) → position_of names name ≡ Some n → (n < length names) × (get_or names n [] ≡ name)
position_of-Some names name n is =
    let at = position-Some (bytes_eq name) names n [] is in
    (at.0, sym ((bytes_eq-Decides name (get_or names n [])).0 at.1))

pub slice_get-position_of : (names : List (List ℕ)) (name : List ℕ) (n : ℕ) → position_of names name ≡ Some n → slice_get names n ≡ Some name
slice_get-position_of names name n is = let at = position_of-Some names name n is in slice_get-get_or names n [] at.0 ∙ ap Some at.1

bytes_eq-refl : (name : List ℕ) → bytes_eq name name ≡ true
bytes_eq-refl name = (bytes_eq-Decides name name).1 refl

-- a name with no position isn't among them
pub position_of-None : (names : List (List ℕ)) (name : List ℕ) → position_of names name ≡ None → Contains names name → ⊥
position_of-None names name is (k, within, same) =
    let past : length names ≤ position_or_len (bytes_eq name) names = grind (arith, nat_tests) in
    let fails : not (bytes_eq name (get_or names k name)) ≡ true = prefix_len_passes (λ other. not (bytes_eq name other)) names k name (omega arith) in
    let wrong : not true ≡ true = rw (same, bytes_eq-refl name) at fails in
    cc

-- each of names that differ is found at its position
pub position_of-at : (names : List (List ℕ)) (n : ℕ) → IsDistinct bytes_eq names → n < length names → position_of names (get_or names n []) ≡ Some n
position_of-at names n distinct within =
    let first : position_or_len (bytes_eq (get_or names n [])) names ≡ n =
    position_or_len_is (bytes_eq (get_or names n [])) names n [] (omega arith)
    (λ k before. nat_list_eq_equiv.symm (get_or names n []) (get_or names k []) ∙ apart_from_distinct bytes_eq names k n [] distinct before within)
    (λ h. bytes_eq-refl (get_or names n [])) in
    let inside : nat_lt n (length names) ≡ true = grind (arith, nat_tests) in
    rw (first, inside) refl

-- one more number
pub decimals_below-more : (n : ℕ) → decimals_below (n + 1) ≡ decimals_below n ++ decimal n ∷ []
decimals_below-more n = map-range_with_len_more decimal 0 n n (omega arith)

pub length-decimals_below : (n : ℕ) → length (decimals_below n) ≡ n
length-decimals_below n = length-map-range_with_len decimal 0 n

pub get_or-decimals_below : (count n : ℕ) → n < count → get_or (decimals_below count) n [] ≡ decimal n
get_or-decimals_below count n h = get_or-map-range_with_len decimal 0 count n n [] h (omega arith)

decimal-injective : (n m : ℕ) → n < 2 ^ 64 → m < 2 ^ 64 → decimal n ≡ decimal m → n ≡ m
decimal-injective n m h k same =
    let both : Some n ≡ Some m = sym (number_of-decimal n h) ∙ ap number_of same ∙ number_of-decimal m k in
    cc

-- no number is the text of a lower one
pub has_name-decimals_below : (n : ℕ) → n < 2 ^ 64 → has_name (decimals_below n) (decimal n) ≡ false
has_name-decimals_below n small = list_any_none (bytes_eq (decimal n)) (decimals_below n) (λ k d within. by k d (rw (length-decimals_below n) at within) (bytes_eq (decimal n) (get_or (decimals_below n) k d)) refl)
  where
    by : (k : ℕ) (d : List ℕ) → k < n → (b : Bool) → bytes_eq (decimal n) (get_or (decimals_below n) k d) ≡ b → b ≡ false
    by k d within false is = refl
    by k d within true is =
        let same : decimal n ≡ decimal k = (bytes_eq-Decides (decimal n) (get_or (decimals_below n) k d)).0 is ∙ get_or-map-range_with_len decimal 0 n k k d within (omega arith) in
        absurd (let one = decimal-injective n k small (omega arith) same in omega arith)

decimals_below-distinct : (n : ℕ) → n ≤ 2 ^ 64 → IsDistinct bytes_eq (decimals_below n)
unfolding IsDistinct
decimals_below-distinct zero small = tt
decimals_below-distinct (suc n) small =
    let one : suc n ≡ n + 1 = omega arith in
    subst (IsDistinct bytes_eq) (sym (ap decimals_below one ∙ decimals_below-more n))
    (IsDistinct-push nat_list_eq_equiv (decimals_below n) (decimal n) (decimals_below-distinct n (omega arith)) (has_name-decimals_below n (omega arith)))

pub AreNames-decimals_below : (n : ℕ) → n ≤ 2 ^ 64 → AreNames 1 (decimals_below n)
AreNames-decimals_below n small = record {
  formed = inl (refl, ap decimals_below (sym (length-decimals_below n)));
  distinct = decimals_below-distinct n small;
}

-- no name
pub AreNames-none : (version : ℕ) → (version ≡ 1) ⊎ (version ≡ 2) → AreNames version []
unfolding IsDistinct
AreNames-none version (inl first) = record { formed = inl (first, refl); distinct = tt }
AreNames-none version (inr second) = record { formed = inr (second, λ k d within. absurd (omega arith)); distinct = tt }

-- one more number after those that were added
pub decimals_below-add : (names more : List (List ℕ)) (name : List ℕ) (added : Bool) (n : ℕ) → n < 2 ^ 64 → names ≡ decimals_below n → name ≡ decimal n
    → added ≡ not (has_name names name) → more ≡ (if added then names ++ name ∷ [] else names) → more ≡ decimals_below (n + 1)
decimals_below-add names more name added n small are is new all =
    let yes : added ≡ true = new ∙ rw (are, is, has_name-decimals_below n small) refl in
    all ∙ rw (yes, are, is) (sym (decimals_below-more n))

-- the name of version 1 at a position
pub decimal-AreNames : (version : ℕ) (names : List (List ℕ)) (n : ℕ) → AreNames version names → version ≡ 1 → n < length names → get_or names n [] ≡ decimal n
decimal-AreNames version names n are first within = by are.formed
  where
    by : AreFormed version names → get_or names n [] ≡ decimal n
    by (inl (v, formed)) = rw formed (get_or-decimals_below (length names) n within)
    by (inr (v, formed)) = absurd (omega arith)

pub known_version : (version : ℕ) (names : List (List ℕ)) → AreNames version names → (version ≡ 1) ⊎ (version ≡ 2)
known_version version names are = by are.formed
  where
    by : AreFormed version names → (version ≡ 1) ⊎ (version ≡ 2)
    by (inl (v, formed)) = inl v
    by (inr (v, formed)) = inr v

-- the numbers below the counts of a book are its names
pub AreNamesOf-plain_names : (b : BookTerms) → b.processes ≤ 2 ^ 64 → length b.accounts ≤ most_accounts → AreNamesOf b (plain_names b)
AreNamesOf-plain_names b few many = record {
  processes = length-decimals_below b.processes;
  accounts = length-decimals_below (length b.accounts);
  formed = record {
    processes = AreNames-decimals_below b.processes few;
    accounts = AreNames-decimals_below (length b.accounts) (omega arith);
    few_accounts = rw (length-decimals_below (length b.accounts)) many;
  };
}

-- the bytes of a name of version 2
pub name-bytes : (name : List ℕ) → is_name name ≡ true → list_all is_name_byte name ≡ true
name-bytes name h =
    let first = both_tests (nat_le (length name) most_name_bytes && list_all is_name_byte name) (is_ascii_lowercase (slice_index name 0)) h in
    (both_tests (nat_le (length name) most_name_bytes) (list_all is_name_byte name) first.0).1

pub name-some : (name : List ℕ) → is_name name ≡ true → 0 < length name
name-some [] h = absurd (cc)
name-some (byte ∷ name) h = omega arith

-- each of them is above a space
pub name_byte-above : (byte : ℕ) → is_name_byte byte ≡ true → 32 < byte
name_byte-above byte h = grind (arith, nat_tests)
