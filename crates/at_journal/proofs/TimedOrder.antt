-- The lines of a journal are linearizable: each line in turn is one before whose beginning no call ends, and passes those before it.
use Rattle.std.proofs.Common.{◌≡◌, ℕ, ◌-◌, ◌<◌, ◌≤◌, ◌==◌, ◌&&◌, not, zero, suc, Bool, true, false, List, [], ◌∷◌, ◌++◌, length, get_or, refl, ap, subst, arith, inl, inr, length-append}
use Rattle.at_journal.proofs.Prelude.{cases_Bool, eq-eqb, eqb-true, not-true, BookTerms, IsBegun, Line, ClosingTerms, Coherent, journal_lines, calls_in, AreTimed, CallTimes, EndsBefore, IsLinearizable}
use Rattle.at_journal.proofs.Choosing.{AreOrdered, First, StandInTime, begun_of, ended_of, key-le, pass-least, pass-lacks_place}
use Rattle.at_journal.proofs.JournalRuns.{Legal-journal_lines}
use Rattle.at_journal.proofs.LinePairs.{AreReceiptLines-journal_lines, IsReceiptLine, MayPrecede, Pairwise-journal_lines, key_of_line}
use Rattle.at_journal.proofs.Movers.{and_first, and_second}
use Rattle.at_journal.proofs.PairLists.{Each, Each-get_or, Each-middle, Each-weaker, Each-without, Least, Pairwise-without, find_least}
use Rattle.at_journal.proofs.Reordering.{IsPermutation-Reordered, Legal-Reordered, Reordered, Whole-Reordered}
use Rattle.at_journal.proofs.StepCases.{lacks_place}
use Rattle.at_journal.proofs.WholeLaws.{Whole-journal_lines}

-- what holds of each line holds of one of them
Each-at : (P : Line → Type 0) (xs before : List Line) (y : Line) (after : List Line) → xs ≡ before ++ y ∷ after → Each P xs → P y
Each-at P xs before y after is each = Each-middle P before y after (subst (Each P) is each)

spans : (c : ClosingTerms) (times : CallTimes) (x : Line) → AreTimed c times → IsReceiptLine c x → begun_of times x ≤ ended_of times x
spans c times x timed is = timed.spans x.process (x.number - 1) is.process_in is.number_in

module _ (b : BookTerms) (c : ClosingTerms) (times : CallTimes) (coherent : Coherent b c) (timed : AreTimed c times) where
  -- the first to end, where it has no place
  first-lacks_place : (xs : List Line) → AreOrdered c xs → (y : Least (λ x. true) (ended_of times) xs) → lacks_place y.at.reply ≡ true → First times xs
  first-lacks_place xs ordered y lacks =
      let own = spans c times y.at timed (Each-at (IsReceiptLine c) xs y.before y.at y.after y.is ordered.each) in
      let free : Each (λ x. EndsBefore times x y.at → ⊥) xs =
      Each-weaker (λ x. true ≡ true → ended_of times y.at ≤ ended_of times x) (λ x. EndsBefore times x y.at → ⊥) xs
      (λ x least earlier. omega (arith, least refl, own, earlier)) y.least in
      record {
        before = y.before;
        at = y.at;
        after = y.after;
        is = y.is;
        pass = pass-lacks_place b c times coherent timed y.before y.at y.after (subst (AreOrdered c) y.is ordered) lacks
            (subst (Each (λ x. EndsBefore times x y.at → ⊥)) y.is free);
        free = free;
      }

  -- and else, of the lines with places and the least key, the first to end
  has_least_key : ℕ → Line → Bool
  has_least_key key x = not (lacks_place x.reply) && (key_of_line c x == key)

  first-least : (xs : List Line) → AreOrdered c xs → (y : Least (λ x. true) (ended_of times) xs) → lacks_place y.at.reply ≡ false
      → (low : Least (λ x. not (lacks_place x.reply)) (key_of_line c) xs) → Least (has_least_key (key_of_line c low.at)) (ended_of times) xs → First times xs
  unfolding has_least_key
  first-least xs ordered y told low w =
      let key : ℕ = key_of_line c low.at in
      let stands : Bool = not (lacks_place w.at.reply) in
      let answered : lacks_place w.at.reply ≡ false = not-true (lacks_place w.at.reply) (and_first stands (key_of_line c w.at == key) w.passes) in
      let key_is : key_of_line c w.at ≡ key = eqb-true (key_of_line c w.at) key (and_second stands (key_of_line c w.at == key) w.passes) in
      let of_w = Each-at (IsReceiptLine c) xs w.before w.at w.after w.is ordered.each in
      let of_y = Each-at (IsReceiptLine c) xs y.before y.at y.after y.is ordered.each in
      let above : key ≤ key_of_line c y.at =
      Each-at (λ x. not (lacks_place x.reply) ≡ true → key ≤ key_of_line c x) xs y.before y.at y.after y.is low.least (ap not told) in
      let later : has_least_key key y.at ≡ true → ended_of times w.at ≤ ended_of times y.at =
      Each-at (λ x. has_least_key key x ≡ true → ended_of times w.at ≤ ended_of times x) xs y.before y.at y.after y.is w.least in
      let own = spans c times w.at timed of_w in
      let none : EndsBefore times y.at w.at → ⊥ = λ earlier.
      let at_most = key-le b c times coherent timed y.at w.at of_y of_w told answered earlier in
      let same : key_of_line c y.at ≡ key = omega (arith, at_most, above, key_is) in
      omega (arith, earlier, own, later (λ i. ap not told i && eq-eqb (key_of_line c y.at) key same i)) in
      let free : Each (λ x. EndsBefore times x w.at → ⊥) xs =
      Each-weaker (λ x. true ≡ true → ended_of times y.at ≤ ended_of times x) (λ x. EndsBefore times x w.at → ⊥) xs
      (λ x least earlier. none (omega (arith, least refl, earlier))) y.least in
      let Low : Line → Type 0 = λ x. lacks_place x.reply ≡ false → key_of_line c w.at ≤ key_of_line c x in
      let lows : Each Low xs =
      Each-weaker (λ x. not (lacks_place x.reply) ≡ true → key ≤ key_of_line c x) Low xs (λ x more so. omega (arith, key_is, more (ap not so))) low.least in
      record {
        before = w.before;
        at = w.at;
        after = w.after;
        is = w.is;
        pass = pass-least b c times coherent timed w.before w.at w.after (subst (AreOrdered c) w.is ordered) answered (subst (Each Low) w.is lows)
            (subst (Each (λ x. EndsBefore times x w.at → ⊥)) w.is free);
        free = free;
      }

  -- some line may move to the cut
  find_first : (x : Line) (xs : List Line) → AreOrdered c (x ∷ xs) → First times (x ∷ xs)
  unfolding Each has_least_key
  find_first x xs ordered =
      let all = x ∷ xs in
      elim (find_least (λ y. true) (ended_of times) all) as (λ _. First times all) [
        | inl none ↦ absurd (cc none.0)
        | inr y ↦
            elim (cases_Bool (lacks_place y.at.reply)) as (λ _. First times all) [
              | inl lacks ↦ first-lacks_place all ordered y lacks
              | inr told ↦
                  elim (find_least (λ z. not (lacks_place z.reply)) (key_of_line c) all) as (λ _. First times all) [
                    | inl none ↦
                        absurd (cc (ap not told, Each-at (λ z. not (lacks_place z.reply) ≡ false) all y.before y.at y.after y.is none))
                    | inr low ↦
                        elim (find_least (has_least_key (key_of_line c low.at)) (ended_of times) all) as (λ _. First times all) [
                          | inl none ↦
                              let passes : has_least_key (key_of_line c low.at) low.at ≡ true =
                              λ i. low.passes i && eq-eqb (key_of_line c low.at) (key_of_line c low.at) refl i in
                              absurd (cc (passes, Each-at (λ z. has_least_key (key_of_line c low.at) z ≡ false) all low.before low.at low.after low.is none))
                          | inr w ↦ first-least all ordered y told low w
                        ]
                  ]
            ]
      ]

-- what holds of each line holds of each in the other order
Each-Reordered : (P : Line → Type 0) (xs ys : List Line) → Reordered xs ys → Each P xs → Each P ys
unfolding Reordered Each
Each-Reordered P xs [] moved each = tt
Each-Reordered P xs (y ∷ ys) moved each =
    let there : Each P (moved.0 ++ y ∷ moved.1) = subst (Each P) moved.2 each in
    (Each-middle P moved.0 y moved.1 there, Each-Reordered P (moved.0 ++ moved.1) ys moved.4 (Each-without P moved.0 y moved.1 there))

-- another order in which the calls stand in time
record InTimeOrder (times : CallTimes) (xs : List Line) : Type 0 where
  order : List Line
  moved : Reordered xs order
  timed : StandInTime times order

in_time_order : (b : BookTerms) (c : ClosingTerms) (times : CallTimes) → Coherent b c → AreTimed c times → (n : ℕ) (xs : List Line) → length xs ≡ n
    → AreOrdered c xs → InTimeOrder times xs
unfolding Reordered StandInTime
in_time_order b c times coherent timed n [] size ordered = record { order = []; moved = refl; timed = tt }
in_time_order b c times coherent timed zero (x ∷ xs) size ordered = absurd (omega (arith, size))
in_time_order b c times coherent timed (suc n) (x ∷ xs) size ordered =
    let first = find_first b c times coherent timed x xs ordered in
    let rest = first.before ++ first.after in
    let there : AreOrdered c (first.before ++ first.at ∷ first.after) = subst (AreOrdered c) first.is ordered in
    let few : length rest ≡ n =
    omega (arith, size, ap length first.is, length-append first.before (first.at ∷ first.after), length-append first.before first.after) in
    let next = in_time_order b c times coherent timed n rest few (record {
      each = Each-without (IsReceiptLine c) first.before first.at first.after there.each;
      pairs = Pairwise-without (MayPrecede c) first.before first.at first.after there.pairs;
    }) in
    let Free : Line → Type 0 = λ z. EndsBefore times z first.at → ⊥ in
    record {
      order = first.at ∷ next.order;
      moved = (first.before, first.after, first.is, first.pass, next.moved);
      timed = (Each-Reordered Free rest next.order next.moved (Each-without Free first.before first.at first.after (subst (Each Free) first.is first.free)), next.timed);
    }

-- the position of a call that ended earlier is smaller
positions-StandInTime : (times : CallTimes) (ys : List Line) → Each (λ y. begun_of times y ≤ ended_of times y) ys → StandInTime times ys
    → (k l : ℕ) (d : Line) → k < length ys → l < length ys → EndsBefore times (get_or ys k d) (get_or ys l d) → k < l
unfolding Each StandInTime
positions-StandInTime times [] own timed k l d first second earlier = absurd (omega (arith, first))
positions-StandInTime times (y ∷ ys) own timed zero zero d first second earlier = absurd (omega (arith, own.0, earlier))
positions-StandInTime times (y ∷ ys) own timed zero (suc l) d first second earlier = omega arith
positions-StandInTime times (y ∷ ys) own timed (suc k) zero d first second earlier =
    absurd (Each-get_or (λ x. EndsBefore times x y → ⊥) ys timed.0 k d (omega (arith, first)) earlier)
positions-StandInTime times (y ∷ ys) own timed (suc k) (suc l) d first second earlier =
    let less = positions-StandInTime times ys own.1 timed.1 k l d (omega (arith, first)) (omega (arith, second)) earlier in
    omega (arith, less)

-- the lines of a coherent closing are linearizable
pub IsLinearizable-journal_lines : (b : BookTerms) (c : ClosingTerms) (times : CallTimes) → Coherent b c → IsBegun b → AreTimed c times
    → IsLinearizable b (calls_in c) times (journal_lines c)
IsLinearizable-journal_lines b c times coherent begun timed =
    let lines = journal_lines c in
    let each = AreReceiptLines-journal_lines c in
    let found = in_time_order b c times coherent timed (length lines) lines refl (record { each = each; pairs = Pairwise-journal_lines b c coherent }) in
    let Spans : Line → Type 0 = λ y. begun_of times y ≤ ended_of times y in
    record {
      order = found.order;
      same = IsPermutation-Reordered lines found.order found.moved;
      legal = Legal-Reordered b lines found.order found.moved (Legal-journal_lines b c coherent begun);
      whole = Whole-Reordered (calls_in c) lines found.order found.moved (Whole-journal_lines b c coherent);
      in_time = positions-StandInTime times found.order
          (Each-Reordered Spans lines found.order found.moved (Each-weaker (IsReceiptLine c) Spans lines (λ x is. spans c times x timed is) each))
          found.timed;
    }
