-- Lines of a journal in an order in which no call stands before one that ended before it began.
use Rattle.std.proofs.Common.{◌≡◌, ◌≢◌, ℕ, ◌-◌, ◌≤◌, true, false, List, [], ◌∷◌, ◌++◌, take, sym, ap, ◌∙◌, arith, inl, inr}
use Rattle.at_journal.proofs.Prelude.{cases_Bool, BookTerms, Line, ClosingTerms, receipts_of, Coherent, journal_order, is_success, receipt_at, AreTimed, CallTimes, EndsBefore}
use Rattle.at_journal.proofs.Exchange.{MayPass}
use Rattle.at_journal.proofs.LinePairs.{IsReceiptLine, MayPrecede, key_of_line}
use Rattle.at_journal.proofs.PairLists.{Each, Each-before, Each-both, Each-middle, Each-weaker, Pairwise, Pairwise-before}
use Rattle.at_journal.proofs.PlacedKeys.{has_place, unmoved-same_key}
use Rattle.at_journal.proofs.StepCases.{lacks_place}

-- when the call of a line begins and ends
abbrev pub begun_of : CallTimes → Line → ℕ
begun_of times x = times.begun x.process (x.number - 1)

abbrev pub ended_of : CallTimes → Line → ℕ
ended_of times x = times.ended x.process (x.number - 1)

-- no call ends before one that stands in front of it begins
unfoldable pub StandInTime : CallTimes → List Line → Type 0
StandInTime times [] = Unit {0}
StandInTime times (y ∷ ys) = Each (λ x. EndsBefore times x y → ⊥) ys × StandInTime times ys

-- a line that may move in front of all others: it passes those before it, and none ends before it begins
pub record First (times : CallTimes) (xs : List Line) : Type 0 where
  pub before : List Line
  pub at : Line
  pub after : List Line
  pub is : xs ≡ before ++ at ∷ after
  pub pass : Each (λ x. MayPass x at) before
  pub free : Each (λ x. EndsBefore times x at → ⊥) xs

-- lines of receipts, in their order in the journal
pub record AreOrdered (c : ClosingTerms) (xs : List Line) : Type 0 where
  pub each : Each (IsReceiptLine c) xs
  pub pairs : Pairwise (MayPrecede c) xs

-- two lines that have places
module _ (b : BookTerms) (c : ClosingTerms) (times : CallTimes) (coherent : Coherent b c) (timed : AreTimed c times) where
  placed : (x : Line) → IsReceiptLine c x → lacks_place x.reply ≡ false → lacks_place (receipt_at (receipts_of c x.process) (x.number - 1)).reply ≡ false
  placed x is told = sym (ap (λ (y : Line). lacks_place y.reply) is.is) ∙ told

  -- one that ended before the other began has the smaller key, or the same
  pub key-le : (x y : Line) → IsReceiptLine c x → IsReceiptLine c y → lacks_place x.reply ≡ false → lacks_place y.reply ≡ false → EndsBefore times x y
      → key_of_line c x ≤ key_of_line c y
  key-le x y one two told answered earlier =
      let i = x.number - 1 in
      let j = y.number - 1 in
      let p = x.process in
      let q = y.process in
      let order = journal_order c in
      (timed.in_time p i q j one.process_in one.number_in two.process_in two.number_in
      (has_place b p order (take i (receipts_of c p)) (receipt_at (receipts_of c p) i)
      ((coherent.told p (omega (arith, one.process_in, coherent.receipts))).placed i one.number_in) (placed x one told))
      (has_place b q order (take j (receipts_of c q)) (receipt_at (receipts_of c q) j)
      ((coherent.told q (omega (arith, two.process_in, coherent.receipts))).placed j two.number_in) (placed y two answered))
      earlier).key

  -- a line passes one of another process that stands before it with the same key
  still-same_key : (x y : Line) → IsReceiptLine c x → IsReceiptLine c y → lacks_place x.reply ≡ false → lacks_place y.reply ≡ false → x.process ≢ y.process
      → key_of_line c x ≡ key_of_line c y → is_success x.reply ≡ false
  still-same_key x y one two told answered apart same =
      ap (λ (z : Line). is_success z.reply) one.is
      ∙ unmoved-same_key b c x.process y.process (x.number - 1) (y.number - 1) coherent
      (omega (arith, one.process_in, coherent.receipts)) (omega (arith, two.process_in, coherent.receipts)) one.number_in two.number_in apart
      (placed x one told) (placed y two answered) same

  -- where no call ended before a line's began, those that stand before it are of other processes
  apart-before : (x y : Line) → IsReceiptLine c x → IsReceiptLine c y → MayPrecede c x y → (EndsBefore times x y → ⊥) → x.process ≢ y.process
  apart-before x y one two before free same =
      let i = x.number - 1 in
      let j = y.number - 1 in
      let less = before.own same in
      free (omega (
        arith,
        timed.sequential y.process i j two.process_in (omega (arith, less, one.numbered)) two.number_in,
        ap (λ p. times.ended p i) same,
      ))

  -- what is known of a line that stands before another
  record Before (x y : Line) : Type 0 where
    one : IsReceiptLine c x
    precedes : MayPrecede c x y
    free : EndsBefore times x y → ⊥

  Before-each : (before : List Line) (y : Line) (after : List Line) → AreOrdered c (before ++ y ∷ after)
      → Each (λ x. EndsBefore times x y → ⊥) (before ++ y ∷ after) → Each (λ x. Before x y) before
  Before-each before y after ordered free =
      Each-weaker (λ x. IsReceiptLine c x × (MayPrecede c x y × (EndsBefore times x y → ⊥))) (λ x. Before x y) before
      (λ x all. record { one = all.0; precedes = all.1.0; free = all.1.1 })
      (Each-both (IsReceiptLine c) (λ x. MayPrecede c x y × (EndsBefore times x y → ⊥)) before
      (Each-before (IsReceiptLine c) before (y ∷ after) ordered.each)
      (Each-both (λ x. MayPrecede c x y) (λ x. EndsBefore times x y → ⊥) before (Pairwise-before (MayPrecede c) before y after ordered.pairs)
      (Each-before (λ x. EndsBefore times x y → ⊥) before (y ∷ after) free)))

  -- a line without a place before whose beginning none ends passes those before it
  pub pass-lacks_place : (before : List Line) (y : Line) (after : List Line) → AreOrdered c (before ++ y ∷ after) → lacks_place y.reply ≡ true
      → Each (λ x. EndsBefore times x y → ⊥) (before ++ y ∷ after) → Each (λ x. MayPass x y) before
  pass-lacks_place before y after ordered lacks free =
      let two = Each-middle (IsReceiptLine c) before y after ordered.each in
      Each-weaker (λ x. Before x y) (λ x. MayPass x y) before
      (λ x so. record { apart = apart-before x y so.one two so.precedes so.free; may = inr (inl lacks) })
      (Before-each before y after ordered free)

  -- and so does one with a place and the least key of those with places
  pub pass-least : (before : List Line) (y : Line) (after : List Line) → AreOrdered c (before ++ y ∷ after) → lacks_place y.reply ≡ false
      → Each (λ x. lacks_place x.reply ≡ false → key_of_line c y ≤ key_of_line c x) (before ++ y ∷ after)
      → Each (λ x. EndsBefore times x y → ⊥) (before ++ y ∷ after) → Each (λ x. MayPass x y) before
  pass-least before y after ordered told least free =
      let two = Each-middle (IsReceiptLine c) before y after ordered.each in
      let Low : Line → Type 0 = λ x. lacks_place x.reply ≡ false → key_of_line c y ≤ key_of_line c x in
      Each-weaker (λ x. Before x y × Low x) (λ x. MayPass x y) before
      (λ x all.
      let so = all.0 in
      let apart = apart-before x y so.one two so.precedes so.free in
      elim (cases_Bool (lacks_place x.reply)) as (λ _. MayPass x y) [
        | inl lacks ↦ record { apart = apart; may = inl lacks }
        | inr answered ↦
            let same : key_of_line c x ≡ key_of_line c y = omega (arith, so.precedes.key, all.1 answered) in
            record {
              apart = apart;
              may = inr (inr (still-same_key x y so.one two answered told apart same, still-same_key y x two so.one told answered (λ e. apart (sym e)) (sym same)));
            }
      ])
      (Each-both (λ x. Before x y) Low before (Before-each before y after ordered free) (Each-before Low before (y ∷ after) least))
