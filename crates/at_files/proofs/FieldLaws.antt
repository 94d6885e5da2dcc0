-- What a record of a known form holds.
use Rattle.std.proofs.Common.{◌≡◌, ℕ, zero, suc, ◌+◌, ◌<◌, ◌^◌, Bool, true, false, ◌&&◌, ◌==◌, List, [], ◌∷◌, length, drop, get_or, Some, bytes_eq, decimal, refl, ◌∙◌, arith}
use Rattle.at_files.proofs.Prelude.{eqb-true, drop_more, bytes_eq-Decides, field_at, number_of-some, Fields, field_of, number_at, has_shape}

pub both_tests : (p q : Bool) → (p && q) ≡ true → (p ≡ true) × (q ≡ true)
both_tests true q h = (refl, h)
both_tests false q h = absurd (cc)

-- the parts of a form: how many fields, and the first of them
pub length-has_shape : (word : List ℕ) (count : ℕ) (fields : Fields) → has_shape word count fields ≡ true → length fields ≡ count
length-has_shape word count fields h = eqb-true _ _ (both_tests (length fields == count) (bytes_eq (field_of fields 0) word) h).0

pub first-has_shape : (word : List ℕ) (count : ℕ) (fields : Fields) → has_shape word count fields ≡ true → field_of fields 0 ≡ word
first-has_shape word count fields h = (bytes_eq-Decides (field_of fields 0) word).0 (both_tests (length fields == count) (bytes_eq (field_of fields 0) word) h).1

pub one_field : (fields : Fields) → length fields ≡ 1 → fields ≡ field_of fields 0 ∷ []
unfolding field_at
one_field [] h = absurd (omega arith)
one_field (a ∷ []) h = refl
one_field (a ∷ b ∷ fields) h = absurd (omega arith)

pub two_fields : (fields : Fields) → length fields ≡ 2 → fields ≡ field_of fields 0 ∷ field_of fields 1 ∷ []
unfolding field_at
two_fields [] h = absurd (omega arith)
two_fields (a ∷ []) h = absurd (omega arith)
two_fields (a ∷ b ∷ []) h = refl
two_fields (a ∷ b ∷ c ∷ fields) h = absurd (omega arith)

pub three_fields : (fields : Fields) → length fields ≡ 3 → fields ≡ field_of fields 0 ∷ field_of fields 1 ∷ field_of fields 2 ∷ []
unfolding field_at
three_fields [] h = absurd (omega arith)
three_fields (a ∷ []) h = absurd (omega arith)
three_fields (a ∷ b ∷ []) h = absurd (omega arith)
three_fields (a ∷ b ∷ c ∷ []) h = refl
three_fields (a ∷ b ∷ c ∷ d ∷ fields) h = absurd (omega arith)

pub four_fields : (fields : Fields) → length fields ≡ 4 → fields ≡ field_of fields 0 ∷ field_of fields 1 ∷ field_of fields 2 ∷ field_of fields 3 ∷ []
unfolding field_at
four_fields [] h = absurd (omega arith)
four_fields (a ∷ []) h = absurd (omega arith)
four_fields (a ∷ b ∷ []) h = absurd (omega arith)
four_fields (a ∷ b ∷ c ∷ []) h = absurd (omega arith)
four_fields (a ∷ b ∷ c ∷ d ∷ []) h = refl
four_fields (a ∷ b ∷ c ∷ d ∷ e ∷ fields) h = absurd (omega arith)

-- a number's field is its canonical decimal
pub field_of-number_at : (fields : Fields) (i n : ℕ) → number_at fields i ≡ Some n → field_of fields i ≡ decimal n
field_of-number_at fields i n h = (number_of-some (field_of fields i) n h).0

pub number_at-lt : (fields : Fields) (i n : ℕ) → number_at fields i ≡ Some n → n < 2 ^ 64
number_at-lt fields i n h = (number_of-some (field_of fields i) n h).1

pub get_or-field_of : (fields : Fields) (i : ℕ) → get_or fields i [] ≡ field_of fields i
unfolding field_at
get_or-field_of [] i = refl
get_or-field_of (f ∷ fields) zero = refl
get_or-field_of (f ∷ fields) (suc i) = get_or-field_of fields i

-- the fields from a position on
pub drop-field_of : (fields : Fields) (i : ℕ) → i < length fields → drop i fields ≡ field_of fields i ∷ drop (i + 1) fields
drop-field_of fields i within = drop_more fields i [] within ∙ rw (get_or-field_of fields i) refl
