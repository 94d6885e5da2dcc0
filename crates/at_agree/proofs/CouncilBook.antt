-- The accounts of a council's book: which is whose.
use Rattle.std.proofs.Common.{◌≡◌, ℕ, ◌+◌, ◌-◌, ◌*◌, ◌<◌, ◌≤◌, ◌==◌, zero, suc, Bool, true, false, cond, [], ◌∷◌, ◌++◌, length, get_or, map, replicate, refl, sym, ap, ◌∙◌, arith, inl, inr, length-append}
use Rattle.std.specs.Prelude.{Some, nat_le}
use Rattle.at_agree.proofs.Prelude.{range_with_len, is_some, cases_eq, cases_lt, eq-eqb, eqb-true, ne_eqb, le-leb, get_or_append_left, get_or-append_right, get_or-replicate, length-replicate, get_or-map-range_with_len, get_or-range_with_len, length-map-range_with_len, length-range_with_len, is_some-position, slot_in-get_or, AccountTerms, IsRisingFrom, is_owner_in, is_shared, is_single, no_account, slot_in, slots_of, account_of, is_owner, council_book, joint_account, own_account, shared_account, spent_account, unowned_account, value_account}

-- how many accounts there are, part by part
length-owns : (k : ℕ) → length (map own_account (range_with_len 0 k)) ≡ k
length-owns k = length-map-range_with_len own_account 0 k

length-cut : (k : ℕ) → length (map own_account (range_with_len 0 k) ++ replicate k unowned_account) ≡ 2 * k
length-cut k =
    omega (
      arith,
      length-append (map own_account (range_with_len 0 k)) (replicate k unowned_account),
      length-owns k,
      length-replicate k unowned_account,
    )

pub length-accounts : (k : ℕ) → length (council_book k).accounts ≡ 2 * k + 2
length-accounts k =
    omega (
      arith,
      length-append (map own_account (range_with_len 0 k) ++ replicate k unowned_account) (joint_account k ∷ unowned_account ∷ []),
      length-cut k,
    )

pub account_of-own : (k p : ℕ) → p < k → account_of (council_book k) p ≡ own_account p
account_of-own k p within =
    let owns = map own_account (range_with_len 0 k) in
    let values = replicate k unowned_account in
    let rest = joint_account k ∷ unowned_account ∷ [] in
    get_or_append_left (owns ++ values) rest no_account p (omega (arith, within, length-cut k))
    ∙ (get_or_append_left owns values no_account p (omega (arith, within, length-owns k))
    ∙ get_or-map-range_with_len own_account 0 k p p no_account within (omega arith))

pub account_of-value : (k p : ℕ) → p < k → account_of (council_book k) (value_account k p) ≡ unowned_account
account_of-value k p within =
    let owns = map own_account (range_with_len 0 k) in
    let values = replicate k unowned_account in
    let rest = joint_account k ∷ unowned_account ∷ [] in
    let at : k + p - k ≡ p = omega arith in
    get_or_append_left (owns ++ values) rest no_account (k + p) (omega (arith, within, length-cut k))
    ∙ (get_or-append_right owns values k (k + p) no_account (length-owns k) (omega arith)
    ∙ (ap (λ i. get_or values i no_account) at ∙ get_or-replicate k p unowned_account no_account within))

account_of-last : (k i : ℕ) → account_of (council_book k) (2 * k + i) ≡ get_or (joint_account k ∷ unowned_account ∷ []) i no_account
account_of-last k i =
    let cut = map own_account (range_with_len 0 k) ++ replicate k unowned_account in
    let rest = joint_account k ∷ unowned_account ∷ [] in
    let at : 2 * k + i - 2 * k ≡ i = omega arith in
    get_or-append_right cut rest (2 * k) (2 * k + i) no_account (length-cut k) (omega arith)
    ∙ ap (λ j. get_or rest j no_account) at

pub account_of-shared : (k : ℕ) → account_of (council_book k) (shared_account k) ≡ joint_account k
account_of-shared k =
    let at : 2 * k ≡ 2 * k + 0 = omega arith in
    ap (λ a. account_of (council_book k) a) at ∙ account_of-last k 0

pub account_of-spent : (k : ℕ) → account_of (council_book k) (spent_account k) ≡ unowned_account
account_of-spent k = account_of-last k 1

-- each account is of one of these four kinds
data Kind (k a : ℕ) : Type 0 where
  own : a < k → account_of (council_book k) a ≡ own_account a → Kind k a
  value : account_of (council_book k) a ≡ unowned_account → Kind k a
  shared : a ≡ 2 * k → Kind k a

kind_of : (k a : ℕ) → a < length (council_book k).accounts → Kind k a
kind_of k a within =
    elim (cases_lt a k) as (λ _. Kind k a) [
      | inl below ↦ own below (account_of-own k a below)
      | inr above ↦ elim (cases_lt a (2 * k)) as (λ _. Kind k a) [
        | inl middle ↦
            let at : value_account k (a - k) ≡ a = omega arith in
            value (ap (λ i. account_of (council_book k) i) (sym at) ∙ account_of-value k (a - k) (omega arith))
        | inr late ↦ elim (cases_eq a (2 * k)) as (λ _. Kind k a) [
          | inl here ↦ shared here
          | inr apart ↦
              let at : a ≡ spent_account k = omega (arith, within, length-accounts k, late, apart) in
              value (ap (λ i. account_of (council_book k) i) at ∙ account_of-spent k)
        ]
      ]
    ]

-- the owners of the shared account are all processes
IsRisingFrom-range : (a n : ℕ) → IsRisingFrom a (range_with_len a n)
unfolding IsRisingFrom
IsRisingFrom-range a zero = tt
IsRisingFrom-range a (suc n) = (omega arith, IsRisingFrom-range (a + 1) n)

pub owner-shared : (k p : ℕ) → p < k → get_or (account_of (council_book k) (shared_account k)).owners p 0 ≡ p
owner-shared k p within =
    ap (λ (t : AccountTerms). get_or t.owners p 0) (account_of-shared k)
    ∙ (get_or-range_with_len 0 k p 0 within ∙ omega arith)

pub slot-shared : (k p : ℕ) → p < k → slot_in (account_of (council_book k) (shared_account k)) p ≡ Some p
slot-shared k p within =
    let owners = range_with_len 0 k in
    let at : get_or owners p 0 ≡ p = get_or-range_with_len 0 k p 0 within ∙ omega arith in
    ap (λ t. slot_in t p) (account_of-shared k)
    ∙ (ap (λ q. slot_in (joint_account k) q) (sym at)
    ∙ slot_in-get_or (joint_account k) p (IsRisingFrom-range 0 k) (omega (arith, within, length-range_with_len 0 k)))

pub is_owner-shared : (k p : ℕ) → p < k → is_owner (council_book k) p (shared_account k) ≡ true
is_owner-shared k p within = ap is_some (slot-shared k p within)

pub is_shared-shared : (k : ℕ) → 2 ≤ k → is_shared (account_of (council_book k) (shared_account k)) ≡ true
is_shared-shared k some =
    ap is_shared (account_of-shared k) ∙ (ap (λ n. nat_le 2 n) (length-range_with_len 0 k) ∙ le-leb 2 k some)

pub is_single-shared : (k : ℕ) → 2 ≤ k → is_single (account_of (council_book k) (shared_account k)) ≡ false
is_single-shared k some =
    ap is_single (account_of-shared k) ∙ (ap (λ n. n == 1) (length-range_with_len 0 k) ∙ ne_eqb k 1 (omega arith))

pub slots_of-shared : (k : ℕ) → 2 ≤ k → slots_of (account_of (council_book k) (shared_account k)) ≡ k
slots_of-shared k some =
    ap slots_of (account_of-shared k) ∙ rw (length-range_with_len 0 k, le-leb 2 k some) refl

-- a single account is an own one, and its owner's alone
pub is_single-own : (k a : ℕ) → 2 ≤ k → a < length (council_book k).accounts → is_single (account_of (council_book k) a) ≡ true → a < k
is_single-own k a some within single =
    elim (kind_of k a within) as (λ _. a < k) [
      | own below is ↦ below
      | value is ↦ absurd (cc (sym (ap is_single is) ∙ single))
      | shared here ↦ absurd (cc (sym (is_single-shared k some) ∙ (ap (λ i. is_single (account_of (council_book k) i)) (sym here) ∙ single)))
    ]

pub is_shared-only : (k a : ℕ) → a < length (council_book k).accounts → is_shared (account_of (council_book k) a) ≡ true → a ≡ shared_account k
is_shared-only k a within joint =
    elim (kind_of k a within) as (λ _. a ≡ 2 * k) [
      | own below is ↦ absurd (cc (sym (ap is_shared is) ∙ joint))
      | value is ↦ absurd (cc (sym (ap is_shared is) ∙ joint))
      | shared here ↦ here
    ]

-- whether a process is the owner of an own account
is_owner-one : (k p q : ℕ) → p < k → is_owner (council_book k) q p ≡ (p == q)
is_owner-one k p q within =
    ap (λ t. is_owner_in t q) (account_of-own k p within) ∙ (is_some-position p q [] ∙ same (p == q))
  where
    same : (t : Bool) → cond t true false ≡ t
    same true = refl
    same false = refl

pub owner-own : (k p q : ℕ) → p < k → is_owner (council_book k) q p ≡ true → p ≡ q
owner-own k p q within owner = eqb-true p q (sym (is_owner-one k p q within) ∙ owner)

pub is_owner-own : (k p : ℕ) → p < k → is_owner (council_book k) p p ≡ true
is_owner-own k p within = is_owner-one k p p within ∙ eq-eqb p p refl
