-- The turns of each call, with one turn more: a call begins with its first, and ends with its last.
use Rattle.std.proofs.Common.{◌≡◌, ◌≢◌, ℕ, zero, suc, ◌-◌, ◌<◌, ◌≤◌, ◌==◌, ◌&&◌, Bool, true, false, cond, List, [], ◌∷◌, ◌++◌, filter, length, get_or, slice_index, refl, sym, ap, ◌∙◌, append-nil, arith, inl, inr, zero-add}
use Rattle.std.specs.Prelude.{is_some}
use Rattle.at_stepper.proofs.Prelude.{take-append_seam, and_from, and_left, and_parts, and_right, cases_Bool, cases_eq, cases_lt, eq-eqb, ne_eqb, get_or_append_left, get_or_push, length_push, take-append-le, filter-append, get_or-range_with_len, length-range_with_len, range_with_len, range_with_len-more, is_turn_of, times_of, turn_at, turns_of_call, answered_by, TurnMade}
use Rattle.at_stepper.proofs.TurnCounts.{answered_by-push}

-- two tests that agree on a list's elements pass the same ones
filter-same : {X : Type 0} (test other : X → Bool) (xs : List X) → ((i : ℕ) (d : X) → i < length xs → test (get_or xs i d) ≡ other (get_or xs i d))
    → filter test xs ≡ filter other xs
filter-same test other [] same = refl
filter-same test other (x ∷ xs) same =
    (λ k. cond (same zero x (omega arith) k) (x ∷ filter test xs) (filter test xs))
    ∙ ap (λ ys. cond (other x) (x ∷ ys) ys) (filter-same test other xs (λ i d within. same (suc i) d (omega (arith, within))))

-- a turn after all these is one of a call
abbrev pub is_next_of : List TurnMade → TurnMade → ℕ → ℕ → Bool
is_next_of turns t p i = (t.process == p) && (answered_by p turns == i)

module _ (turns : List TurnMade) (t : TurnMade) where
  pub is_turn_of-push : (p i m : ℕ) → m < length turns → is_turn_of (turns ++ t ∷ []) p i m ≡ is_turn_of turns p i m
  is_turn_of-push p i m within =
      (λ k. ((get_or_append_left turns (t ∷ []) (turn_at [] 0) m within k).process == p)
      && (answered_by p (take-append-le m turns (t ∷ []) (omega (arith, within)) k) == i))

  pub is_turn_of-last : (p i : ℕ) → is_turn_of (turns ++ t ∷ []) p i (length turns) ≡ is_next_of turns t p i
  is_turn_of-last p i =
      (λ k. ((get_or_push turns t (turn_at [] 0) (length turns) refl k).process == p)
      && (answered_by p (take-append_seam turns (t ∷ []) k) == i))

  -- one turn more is one of the call that it is of
  pub turns_of_call-push : (p i : ℕ)
      → turns_of_call (turns ++ t ∷ []) p i ≡ turns_of_call turns p i ++ cond (is_next_of turns t p i) (length turns ∷ []) []
  turns_of_call-push p i =
      let n = length turns in
      let all = turns ++ t ∷ [] in
      ap (λ k. filter (is_turn_of all p i) (range_with_len 0 k)) (length_push turns t)
      ∙ (ap (λ ms. filter (is_turn_of all p i) ms) (range_with_len-more 0 n ∙ ap (λ k. range_with_len 0 n ++ k ∷ []) (zero-add n))
      ∙ (filter-append (is_turn_of all p i) (range_with_len 0 n) (n ∷ [])
      ∙ (ap (λ ms. ms ++ cond (is_turn_of all p i n) (n ∷ []) [])
      (filter-same (is_turn_of all p i) (is_turn_of turns p i) (range_with_len 0 n)
      (λ j d within. is_turn_of-push p i (get_or (range_with_len 0 n) j d)
      (omega (arith, within, length-range_with_len 0 n, get_or-range_with_len 0 n j d (omega (arith, within, length-range_with_len 0 n))))))
      ∙ ap (λ b. turns_of_call turns p i ++ cond b (n ∷ []) []) (is_turn_of-last p i))))

  -- of a call that the turn isn't of the turns stay
  pub turns_of_call-other : (p i : ℕ) → is_next_of turns t p i ≡ false → turns_of_call (turns ++ t ∷ []) p i ≡ turns_of_call turns p i
  turns_of_call-other p i other =
      turns_of_call-push p i
      ∙ (ap (λ b. turns_of_call turns p i ++ cond b (length turns ∷ []) []) other ∙ append-nil (turns_of_call turns p i))

  pub turns_of_call-own : (p i : ℕ) → is_next_of turns t p i ≡ true
      → turns_of_call (turns ++ t ∷ []) p i ≡ turns_of_call turns p i ++ length turns ∷ []
  turns_of_call-own p i own = turns_of_call-push p i ∙ ap (λ b. turns_of_call turns p i ++ cond b (length turns ∷ []) []) own

  -- so a call that has begun keeps its first turn, and its last one until the next
  pub begun-push : (p i : ℕ) → 0 < length (turns_of_call turns p i) → (times_of (turns ++ t ∷ [])).begun p i ≡ (times_of turns).begun p i
  begun-push p i some =
      ap (λ ms. slice_index ms 0) (turns_of_call-push p i)
      ∙ get_or_append_left (turns_of_call turns p i) (cond (is_next_of turns t p i) (length turns ∷ []) []) 0 0 some

  pub ended-other : (p i : ℕ) → is_next_of turns t p i ≡ false → (times_of (turns ++ t ∷ [])).ended p i ≡ (times_of turns).ended p i
  ended-other p i other = ap (λ ms. slice_index ms (length ms - 1)) (turns_of_call-other p i other)

  -- and the call that the turn is of ends with it, and begins with it if it had no other
  pub ended-own : (p i : ℕ) → is_next_of turns t p i ≡ true → (times_of (turns ++ t ∷ [])).ended p i ≡ length turns
  ended-own p i own =
      let ms = turns_of_call turns p i in
      ap (λ ks. slice_index ks (length ks - 1)) (turns_of_call-own p i own)
      ∙ get_or_push ms (length turns) 0 (length (ms ++ length turns ∷ []) - 1) (omega (arith, length_push ms (length turns)))

  pub begun-own : (p i : ℕ) → is_next_of turns t p i ≡ true → length (turns_of_call turns p i) ≡ 0
      → (times_of (turns ++ t ∷ [])).begun p i ≡ length turns
  begun-own p i own none =
      ap (λ ms. slice_index ms 0) (turns_of_call-own p i own) ∙ get_or_push (turns_of_call turns p i) (length turns) 0 0 none

  pub some-own : (p i : ℕ) → is_next_of turns t p i ≡ true → 0 < length (turns_of_call (turns ++ t ∷ []) p i)
  some-own p i own =
      omega (arith, ap (λ ms. length ms) (turns_of_call-own p i own), length_push (turns_of_call turns p i) (length turns))

  pub some-push : (p i : ℕ) → 0 < length (turns_of_call turns p i) → 0 < length (turns_of_call (turns ++ t ∷ []) p i)
  some-push p i some =
      elim (cases_Bool (is_next_of turns t p i)) as (λ _. 0 < length (turns_of_call (turns ++ t ∷ []) p i)) [
        | inl own ↦ some-own p i own
        | inr other ↦ omega (arith, some, ap (λ ms. length ms) (turns_of_call-other p i other))
      ]

  -- the turn is of the call after those that its process has answered, and of no other
  pub is_next_of-own : (i : ℕ) → answered_by t.process turns ≡ i → is_next_of turns t t.process i ≡ true
  is_next_of-own i is = and_from (t.process == t.process) (answered_by t.process turns == i) (eq-eqb t.process t.process refl)
      (eq-eqb (answered_by t.process turns) i is)

  pub is_next_of-number : (p i : ℕ) → answered_by p turns ≢ i → is_next_of turns t p i ≡ false
  is_next_of-number p i apart = and_right (t.process == p) (answered_by p turns == i) (ne_eqb (answered_by p turns) i apart)

  pub is_next_of-process : (p i : ℕ) → p ≢ t.process → is_next_of turns t p i ≡ false
  is_next_of-process p i apart = and_left (t.process == p) (answered_by p turns == i) (ne_eqb t.process p (λ e. apart (sym e)))

  pub number-is_next_of : (p i : ℕ) → is_next_of turns t p i ≡ true → answered_by p turns ≡ i
  number-is_next_of p i own =
      elim (cases_eq (answered_by p turns) i) as (λ _. answered_by p turns ≡ i) [
        | inl same ↦ same
        | inr apart ↦ absurd (cc (own, is_next_of-number p i apart))
      ]

  pub process-is_next_of : (p i : ℕ) → is_next_of turns t p i ≡ true → p ≡ t.process
  process-is_next_of p i own =
      elim (cases_eq p t.process) as (λ _. p ≡ t.process) [
        | inl same ↦ same
        | inr apart ↦ absurd (cc (own, is_next_of-process p i apart))
      ]

  -- it is of each call that is answered with it, and wasn't before
  pub next-answered : (p i : ℕ) → answered_by p turns ≤ i → i < answered_by p (turns ++ t ∷ []) → is_next_of turns t p i ≡ true
  next-answered p i past within =
      elim (cases_Bool ((t.process == p) && is_some t.reply)) as (λ _. is_next_of turns t p i ≡ true) [
        | inl here ↦
            let one : cond ((t.process == p) && is_some t.reply) 1 0 ≡ 1 = ap {B = ℕ} (λ (b : Bool). cond b 1 0) here in
            and_from (t.process == p) (answered_by p turns == i) (and_parts (t.process == p) (is_some t.reply) here).0
            (eq-eqb (answered_by p turns) i (omega (arith, past, within, answered_by-push p turns t, one)))
        | inr not ↦ absurd (omega (arith, past, within, answered_by-push p turns t, ap {B = ℕ} (λ (b : Bool). cond b 1 0) not))
      ]

-- the turns of calls stand in order: those of a process's calls one after another, of each that is answered there are some, and of those
-- after the next one there are none
pub record AreTimes (turns : List TurnMade) : Type 0 where
  pub none : (p i : ℕ) → answered_by p turns < i → length (turns_of_call turns p i) ≡ 0
  pub some : (p i : ℕ) → i < answered_by p turns → 0 < length (turns_of_call turns p i)
  pub spans : (p i : ℕ) → 0 < length (turns_of_call turns p i) → (times_of turns).begun p i ≤ (times_of turns).ended p i
  pub within : (p i : ℕ) → 0 < length (turns_of_call turns p i) → (times_of turns).ended p i < length turns
  pub sequential : (p i j : ℕ) → i < j → 0 < length (turns_of_call turns p i) → 0 < length (turns_of_call turns p j) →
      (times_of turns).ended p i < (times_of turns).begun p j

pub AreTimes-none : AreTimes []
AreTimes-none = record {
  none = λ p i after. refl;
  some = λ p i before. absurd (omega (arith, before));
  spans = λ p i some. absurd (omega (arith, some));
  within = λ p i some. absurd (omega (arith, some));
  sequential = λ p i j before some more. absurd (omega (arith, some));
}

module _ (turns : List TurnMade) (t : TurnMade) (were : AreTimes turns) where
  abbrev all : List TurnMade
  all = turns ++ t ∷ []

  none-push : (p i : ℕ) → answered_by p all < i → length (turns_of_call all p i) ≡ 0
  none-push p i after =
      let past : answered_by p turns < i = omega (arith, after, answered_by-push p turns t) in
      ap (λ ms. length ms) (turns_of_call-other turns t p i (is_next_of-number turns t p i (λ same. absurd (omega (arith, past, same)))))
      ∙ were.none p i past

  some-pushed : (p i : ℕ) → i < answered_by p all → 0 < length (turns_of_call all p i)
  some-pushed p i before =
      elim (cases_lt i (answered_by p turns)) as (λ _. 0 < length (turns_of_call all p i)) [
        | inl below ↦ some-push turns t p i (were.some p i below)
        | inr above ↦ some-own turns t p i (next-answered turns t p i above before)
      ]

  spans-push : (p i : ℕ) → 0 < length (turns_of_call all p i)
      → ((times_of all).begun p i ≤ (times_of all).ended p i) × ((times_of all).ended p i < length all)
  spans-push p i some =
      elim (cases_Bool (is_next_of turns t p i)) as
      (λ _. ((times_of all).begun p i ≤ (times_of all).ended p i) × ((times_of all).ended p i < length all)) [
        | inl own ↦
            let last = ended-own turns t p i own in
            elim (cases_lt 0 (length (turns_of_call turns p i))) as
            (λ _. ((times_of all).begun p i ≤ (times_of all).ended p i) × ((times_of all).ended p i < length all)) [
              | inl more ↦ (
                omega (arith, last, begun-push turns t p i more, were.spans p i more, were.within p i more),
                omega (arith, last, length_push turns t),
              )
              | inr first ↦
                  (omega (arith, last, begun-own turns t p i own (omega (arith, first))), omega (arith, last, length_push turns t))
            ]
        | inr other ↦
            let had : 0 < length (turns_of_call turns p i) = omega (arith, some, ap (λ ms. length ms) (turns_of_call-other turns t p i other)) in
            let last = ended-other turns t p i other in
            (omega (arith, last, begun-push turns t p i had, were.spans p i had), omega (arith, last, were.within p i had, length_push turns t))
      ]

  -- a call that another of its process comes after gets no turn more
  earlier-other : (p i j : ℕ) → i < j → 0 < length (turns_of_call all p j) → is_next_of turns t p i ≡ false
  earlier-other p i j before more =
      elim (cases_Bool (is_next_of turns t p i)) as (λ _. is_next_of turns t p i ≡ false) [
        | inl own ↦
            let number = number-is_next_of turns t p i own in
            absurd (omega (
              arith,
              more,
              before,
              number,
              were.none p j (omega (arith, before, number)),
              ap (λ ms. length ms) (turns_of_call-other turns t p j (is_next_of-number turns t p j (λ same. absurd (omega (arith, before, number, same))))),
            ))
        | inr other ↦ other
      ]

  sequential-push : (p i j : ℕ) → i < j → 0 < length (turns_of_call all p i) → 0 < length (turns_of_call all p j)
      → (times_of all).ended p i < (times_of all).begun p j
  sequential-push p i j before some more =
      let other = earlier-other p i j before more in
      let had : 0 < length (turns_of_call turns p i) = omega (arith, some, ap (λ ms. length ms) (turns_of_call-other turns t p i other)) in
      let last = ended-other turns t p i other in
      elim (cases_lt 0 (length (turns_of_call turns p j))) as (λ _. (times_of all).ended p i < (times_of all).begun p j) [
        | inl had_more ↦ omega (arith, last, begun-push turns t p j had_more, were.sequential p i j before had had_more)
        | inr first ↦ elim (cases_Bool (is_next_of turns t p j)) as (λ _. (times_of all).ended p i < (times_of all).begun p j) [
          | inl own ↦ omega (arith, last, were.within p i had, begun-own turns t p j own (omega (arith, first)))
          | inr not ↦ absurd (omega (arith, more, first, ap (λ ms. length ms) (turns_of_call-other turns t p j not)))
        ]
      ]

  pub AreTimes-push : AreTimes all
  AreTimes-push = record {
    none = none-push;
    some = some-pushed;
    spans = λ p i some. (spans-push p i some).0;
    within = λ p i some. (spans-push p i some).1;
    sequential = sequential-push;
  }
