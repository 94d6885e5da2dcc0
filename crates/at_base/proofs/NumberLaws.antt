-- The texts that are numbers are the canonical decimals.
use Rattle.std.proofs.Common.{◌≡◌, ℕ, ◌^◌, ◌<◌, ◌↔◌, Bool, true, false, ◌&&◌, nat_lt, List, length, get_or, Some, None, decimal, refl, sym, ap, ◌∙◌, arith, rules, inl, inr, ◌⊎◌, ◌+◌, ◌*◌, ◌≤◌, take, if◌then◌else◌}
use Rattle.at_base.proofs.Prelude.{ltb-true, digit_value, is_ascii_digit, list_all, digits_value, common_steps, nat_tests, digits_value_more, list_all_at, list_all_more, IsDigitsTest, IsNumeralModel, digits_value-take-le, numerals_by_value, digits_decimal, digits_value-decimal, decimal-digits_value, first_decimal, decimal_digit, begins_canonical, is_canonical, number_of}

-- each byte is a digit
abbrev pub AreDigits : List ℕ → Type 0
AreDigits text = list_all is_ascii_digit text ≡ true

pub tells_digits : IsDigitsTest AreDigits
tells_digits = search rules

-- the words of this crate for digits and their value
pub own : IsNumeralModel AreDigits (digits_value 10)
own = numerals_by_value AreDigits tells_digits

-- digits whose first isn't 0 unless it is alone are canonical
is_canonical-from : (text : List ℕ) → AreDigits text → (length text ≡ 1) ⊎ (48 < get_or text 0 0) → is_canonical text ≡ true
is_canonical-from text digits (inl one) = rw (digits, one) refl
is_canonical-from text digits (inr above) = grind (arith, nat_tests, common_steps)

first_of_decimal : (n : ℕ) → n < 2 ^ 64 → (n < 10) ⊎ (0 < n) → (length (decimal n) ≡ 1) ⊎ (48 < get_or (decimal n) 0 0)
first_of_decimal n h (inl small) = inl (ap length (decimal_digit n small))
first_of_decimal n h (inr some) = inr (first_decimal n some h)

pub is_canonical-decimal : (n : ℕ) → n < 2 ^ 64 → is_canonical (decimal n) ≡ true
is_canonical-decimal n h =
    let split : (n < 10) ⊎ (0 < n) = grind arith in
    is_canonical-from (decimal n) (digits_decimal own n h) (first_of_decimal n h split)

pub number_of-decimal : (n : ℕ) → n < 2 ^ 64 → number_of (decimal n) ≡ Some n
unfolding number_of
number_of-decimal n h =
    let digits : is_canonical (decimal n) ≡ true = is_canonical-decimal n h in
    let value : digits_value 10 (decimal n) ≡ n = digits_value-decimal own n h in
    rw (digits, value) (grind (arith, nat_tests))

-- what the parts of a canonical text are
pub record IsCanonical (text : List ℕ) : Type 0 where
  pub digits : AreDigits text
  pub some : 0 < length text
  pub first : get_or text 0 0 ≡ 48 → length text ≡ 1

IsCanonical-is_canonical : (text : List ℕ) → is_canonical text ≡ true → IsCanonical text
IsCanonical-is_canonical text h = record {
  digits = grind (arith, nat_tests, common_steps);
  some = grind (arith, nat_tests, common_steps);
  first = λ zero. grind (arith, nat_tests, common_steps);
}

-- a number comes only where both tests hold
number_of_tests : (canonical fits : Bool) (value n : ℕ) → (if canonical && fits then Some value else None) ≡ Some n → (canonical ≡ true) × (fits ≡ true) × (value ≡ n)
number_of_tests true true value n h = (refl, refl, cc)
number_of_tests true false value n h = cc
number_of_tests false fits value n h = cc

pub number_of-some : (text : List ℕ) (n : ℕ) → number_of text ≡ Some n → (text ≡ decimal n) × (n < 2 ^ 64)
unfolding number_of
number_of-some text n h =
    let t = number_of_tests (is_canonical text) (nat_lt (digits_value 10 text) (2 ^ 64)) (digits_value 10 text) n h in
    let parts = IsCanonical-is_canonical text t.0 in
    let fits : digits_value 10 text < 2 ^ 64 = ltb-true _ _ t.1 in
    let text_is : decimal (digits_value 10 text) ≡ text = decimal-digits_value own text parts.digits parts.some parts.first fits in
    let value_is : digits_value 10 text ≡ n = t.2 in
    (sym (rw value_is at text_is), rw value_is at fits)

-- the numbers of texts are those whose canonical decimal the text is
pub number_of-exact : (text : List ℕ) (n : ℕ) → n < 2 ^ 64 → (number_of text ≡ Some n) ↔ (text ≡ decimal n)
number_of-exact text n h = (λ e. (number_of-some text n e).0, λ e. rw e (number_of-decimal n h))

number_of_fits : (text : List ℕ) → is_canonical text ≡ true → digits_value 10 text < 2 ^ 64 → number_of text ≡ Some (digits_value 10 text)
unfolding number_of
number_of_fits text canonical fits = rw canonical (grind (arith, nat_tests))

number_of_long : (text : List ℕ) → is_canonical text ≡ true → ¬ (digits_value 10 text < 2 ^ 64) → number_of text ≡ None
unfolding number_of
number_of_long text canonical long = rw canonical (grind (arith, nat_tests))

-- a text that isn't canonical is no number
pub number_of-other : (text : List ℕ) → is_canonical text ≡ false → number_of text ≡ None
unfolding number_of
number_of-other text h = rw h refl

-- no text is a number that isn't canonical, or doesn't fit
number_of-refused : (text : List ℕ) (canonical : Bool) → is_canonical text ≡ canonical → (IsCanonical text → digits_value 10 text < 2 ^ 64 → ⊥) → number_of text ≡ None
number_of-refused text true is refused = number_of_long text is (λ fits. refused (IsCanonical-is_canonical text is) fits)
number_of-refused text false is refused = number_of-other text is

and_false : (b : Bool) → (b && false) ≡ false
and_false true = refl
and_false false = refl

-- a text whose begin isn't canonical is no number
pub number_of-begins : (text : List ℕ) → begins_canonical text ≡ false → number_of text ≡ None
number_of-begins text begins = number_of-other text (rw begins (and_false (list_all is_ascii_digit text)))

-- a text of which one byte is no digit is no number
pub number_of-not_digit : (text : List ℕ) (i : ℕ) → i < length text → is_ascii_digit (get_or text i 0) ≡ false → number_of text ≡ None
number_of-not_digit text i inside other =
    let not_all : list_all is_ascii_digit text ≡ false = list_all_at is_ascii_digit text i 0 inside other in
    number_of-other text (rw not_all refl)

-- a text that is too long a number at one of its digits is none
pub number_of-too_long : (text : List ℕ) (i : ℕ) → i < length text → 2 ^ 64 ≤ digits_value 10 (take i text) * 10 + digit_value (get_or text i 0) → number_of text ≡ None
number_of-too_long text i inside long =
    number_of-refused text (is_canonical text) refl (λ parts fits.
    omega (arith, long, fits, digits_value_more 10 text i inside, digits_value-take-le 10 text (i + 1) (omega arith)))

-- digits that begin canonically are a number, where their value fits
pub number_of-digits : (text : List ℕ) → AreDigits text → begins_canonical text ≡ true → digits_value 10 text < 2 ^ 64 → number_of text ≡ Some (digits_value 10 text)
number_of-digits text digits begins fits = number_of_fits text (rw (digits, begins) refl) fits

-- a digit more
pub AreDigits-take_more : (text : List ℕ) (i : ℕ) → i < length text → AreDigits (take i text) → is_ascii_digit (get_or text i 0) ≡ true → AreDigits (take (i + 1) text)
AreDigits-take_more text i inside before digit = list_all_more is_ascii_digit text i 0 inside ∙ rw (before, digit) refl
