-- The numbers that the fields of a record are, from one position on.
use Rattle.std.proofs.Common.{◌≡◌, ℕ, ◌+◌, ◌<◌, ◌≤◌, List, [], ◌∷◌, ◌++◌, length, drop, Some, None, refl, sym, ◌∙◌, ap, append-nil}
use Rattle.at_files.proofs.Prelude.{drop_all, Fields, before, number_at, numbers_of}
use Rattle.at_files.proofs.FieldLaws.{drop-field_of}
use Rattle.at_files.proofs.OwnerLaws.{before-none, numbers_before, numbers_before-none, numbers_before-push}

-- these are the numbers of the fields from `first` on, up to `i`
pub record AreReadTo (fields : Fields) (first i : ℕ) (numbers : List ℕ) : Type 0 where
  pub read : numbers_of (drop first fields) ≡ numbers_before numbers (numbers_of (drop i fields))

numbers_of-field : (fields : Fields) (i : ℕ) → i < length fields → numbers_of (drop i fields) ≡ before (number_at fields i) (numbers_of (drop (i + 1) fields))
unfolding numbers_of
numbers_of-field fields i within = rw (drop-field_of fields i within) refl

pub AreReadTo-start : (fields : Fields) (first : ℕ) → AreReadTo fields first first []
AreReadTo-start fields first = record { read = sym (numbers_before-none (numbers_of (drop first fields))) }

pub AreReadTo-more : (fields : Fields) (first i : ℕ) (numbers : List ℕ) (n : ℕ) → AreReadTo fields first i numbers → i < length fields → number_at fields i ≡ Some n
    → AreReadTo fields first (i + 1) (numbers ++ n ∷ [])
AreReadTo-more fields first i numbers n are within is = record {
  read = are.read ∙ rw (numbers_of-field fields i within, is) (numbers_before-push numbers n (numbers_of (drop (i + 1) fields)));
}

pub AreReadTo-bad : (fields : Fields) (first i : ℕ) (numbers : List ℕ) → AreReadTo fields first i numbers → i < length fields → number_at fields i ≡ None
    → numbers_of (drop first fields) ≡ None
AreReadTo-bad fields first i numbers are within is =
    are.read ∙ rw (numbers_of-field fields i within, is, before-none (numbers_of (drop (i + 1) fields))) refl

pub AreReadTo-end : (fields : Fields) (first i : ℕ) (numbers : List ℕ) → AreReadTo fields first i numbers → length fields ≤ i → numbers_of (drop first fields) ≡ Some numbers
unfolding numbers_of
AreReadTo-end fields first i numbers are all = are.read ∙ rw (drop_all i fields all) (ap Some (append-nil numbers))
