-- The calls of a process, turn by turn.
use Rattle.std.proofs.Common.{◌≡◌, ◌≢◌, ℕ, zero, suc, ◌+◌, ◌<◌, ◌≤◌, ◌==◌, ◌&&◌, ◌∙◌, All, Bool, true, false, cond, List, [], ◌∷◌, ◌++◌, Option, Some, count_by, filter, flat_map, length, map, take, slice_get, refl, sym, ap, subst, arith, append-nil, inl, inr, add-one}
use Rattle.std.specs.Prelude.{is_some, unwrap_or}
use Rattle.at_pages.proofs.Prelude.{range_with_len, cases_eq, eq-eqb, ne_eqb, map-append, take-take, All-append, All-map, All-nil, sum_by-take-le, sum_by_push, is_turn_of, turn_at, answered_by, TurnMade, answered_by-more, other-added, after_turn, ended, ended_by, not_begun, with_turn, all_spans, answers, counts_record, makes_exchange, makes_step, span_at, spans_of, turns_before, Making, Span}
use Rattle.at_pages.proofs.TextLaws.{filter-range_more, flat_map-range_more}

-- what is known before a turn of the call that is in the making then
abbrev pub making_at : List TurnMade → ℕ → ℕ → Making
making_at turns p m = record {
  number = answered_by p (take m turns);
  first = slice_get (turns_before turns p m) 0;
  steps = count_by (makes_step turns) (turns_before turns p m);
  exchanges = count_by (makes_exchange turns) (turns_before turns p m);
  new_records = count_by (counts_record turns) (turns_before turns p m);
}

-- the calls that the first turns have ended
abbrev pub spans_by : List TurnMade → ℕ → ℕ → List Span
spans_by turns p m = map (span_at turns p) (filter (answers turns p) (range_with_len 0 m))

filter-none : (P : ℕ → Bool) (n : ℕ) → ((j : ℕ) → j < n → P j ≡ false) → filter P (range_with_len 0 n) ≡ []
filter-none P zero none = refl
filter-none P (suc n) none =
    ap (λ (k : ℕ). filter P (range_with_len 0 k)) (sym (add-one n))
    ∙ (filter-range_more P n
    ∙ (ap (λ (xs : List ℕ). xs ++ cond (P n) (n ∷ []) []) (filter-none P n (λ j below. none j (omega (arith, below))))
    ∙ ap (λ (b : Bool). cond b (n ∷ []) []) (none n (omega arith))))

answered-rises : (turns : List TurnMade) (p j m : ℕ) → j ≤ m → answered_by p (take j turns) ≤ answered_by p (take m turns)
answered-rises turns p j m before =
    subst (λ (xs : List TurnMade). answered_by p xs ≤ answered_by p (take m turns)) (take-take j m turns before)
    (sum_by-take-le (λ (x : TurnMade). cond ((x.process == p) && is_some x.reply) 1 0) (take m turns) j)

first-push : (xs : List ℕ) (m : ℕ) → slice_get (xs ++ m ∷ []) 0 ≡ Some (unwrap_or (slice_get xs 0) m)
first-push [] m = refl
first-push (x ∷ xs) m = refl

count-push : (f : ℕ → Bool) (xs : List ℕ) (m : ℕ) → count_by f (xs ++ m ∷ []) ≡ count_by f xs + cond (f m) 1 0
count-push f xs m = sum_by_push (λ (x : ℕ). cond (f x) 1 0) xs m

-- a call in the making by its number and the turns that it had
of_turns : List TurnMade → ℕ → List ℕ → Making
of_turns turns k before = record {
  number = k;
  first = slice_get before 0;
  steps = count_by (makes_step turns) before;
  exchanges = count_by (makes_exchange turns) before;
  new_records = count_by (counts_record turns) before;
}

and-false : (b : Bool) → (b && false) ≡ false
and-false true = refl
and-false false = refl

-- another process's turn changes nothing
making_at-other : (turns : List TurnMade) (p m : ℕ) → m < length turns → (turn_at turns m).process ≢ p
    → making_at turns p (m + 1) ≡ making_at turns p m
unfolding of_turns
making_at-other turns p m within apart =
    ap (λ (k : ℕ). of_turns turns k (filter (is_turn_of turns p k) (range_with_len 0 (m + 1)))) number
    ∙ ap (of_turns turns (answered_by p (take m turns))) same where
      number : answered_by p (take (m + 1) turns) ≡ answered_by p (take m turns)
      number = omega (arith, answered_by-more turns m p within, other-added p (turn_at turns m) apart)

      not_own : is_turn_of turns p (answered_by p (take m turns)) m ≡ false
      not_own = ap (λ (b : Bool). b && (answered_by p (take m turns) == answered_by p (take m turns))) (ne_eqb (turn_at turns m).process p apart)

      same : filter (is_turn_of turns p (answered_by p (take m turns))) (range_with_len 0 (m + 1)) ≡ turns_before turns p m
      same =
          filter-range_more (is_turn_of turns p (answered_by p (take m turns))) m
          ∙ (ap (λ (b : Bool). turns_before turns p m ++ cond b (m ∷ []) []) not_own ∙ append-nil (turns_before turns p m))

-- a turn with which the call goes on is one more of its turns
making_at-goes_on : (turns : List TurnMade) (p m : ℕ) → m < length turns → (turn_at turns m).process ≡ p → is_some (turn_at turns m).reply ≡ false
    → making_at turns p (m + 1) ≡ with_turn (making_at turns p m) (turn_at turns m) m
unfolding of_turns
making_at-goes_on turns p m within own unanswered =
    ap (λ (k : ℕ). of_turns turns k (filter (is_turn_of turns p k) (range_with_len 0 (m + 1)))) number
    ∙ (ap (of_turns turns (answered_by p (take m turns))) more ∙ fields) where
      number : answered_by p (take (m + 1) turns) ≡ answered_by p (take m turns)
      number =
          omega (arith, answered_by-more turns m p within, ap {B = ℕ} (λ (b : Bool). cond (((turn_at turns m).process == p) && b) 1 0) unanswered, ap {B = ℕ} (λ (b : Bool). cond b 1 0) (and-false ((turn_at turns m).process == p)))

      is_own : is_turn_of turns p (answered_by p (take m turns)) m ≡ true
      is_own =
          ap (λ (b : Bool). b && (answered_by p (take m turns) == answered_by p (take m turns))) (eq-eqb (turn_at turns m).process p own)
          ∙ eq-eqb (answered_by p (take m turns)) (answered_by p (take m turns)) refl

      more : filter (is_turn_of turns p (answered_by p (take m turns))) (range_with_len 0 (m + 1)) ≡ turns_before turns p m ++ m ∷ []
      more =
          filter-range_more (is_turn_of turns p (answered_by p (take m turns))) m
          ∙ ap (λ (b : Bool). turns_before turns p m ++ cond b (m ∷ []) []) is_own

      fields : of_turns turns (answered_by p (take m turns)) (turns_before turns p m ++ m ∷ []) ≡ with_turn (making_at turns p m) (turn_at turns m) m
      fields =
          ap (λ (first : Option ℕ). record { number = answered_by p (take m turns); first = first; steps = count_by (makes_step turns) (turns_before turns p m ++ m ∷ []); exchanges = count_by (makes_exchange turns) (turns_before turns p m ++ m ∷ []); new_records = count_by (counts_record turns) (turns_before turns p m ++ m ∷ []) }) (first-push (turns_before turns p m) m)
          ∙ (ap (λ (steps : ℕ). record { number = answered_by p (take m turns); first = Some (unwrap_or (slice_get (turns_before turns p m) 0) m); steps = steps; exchanges = count_by (makes_exchange turns) (turns_before turns p m ++ m ∷ []); new_records = count_by (counts_record turns) (turns_before turns p m ++ m ∷ []) }) (count-push (makes_step turns) (turns_before turns p m) m)
          ∙ (ap (λ (exchanges : ℕ). record { number = answered_by p (take m turns); first = Some (unwrap_or (slice_get (turns_before turns p m) 0) m); steps = count_by (makes_step turns) (turns_before turns p m) + cond (is_some (turn_at turns m).step) 1 0; exchanges = exchanges; new_records = count_by (counts_record turns) (turns_before turns p m ++ m ∷ []) }) (count-push (makes_exchange turns) (turns_before turns p m) m)
          ∙ ap (λ (new : ℕ). record { number = answered_by p (take m turns); first = Some (unwrap_or (slice_get (turns_before turns p m) 0) m); steps = count_by (makes_step turns) (turns_before turns p m) + cond (is_some (turn_at turns m).step) 1 0; exchanges = count_by (makes_exchange turns) (turns_before turns p m) + cond (makes_exchange turns m) 1 0; new_records = new }) (count-push (counts_record turns) (turns_before turns p m) m)))

-- after its last turn the next one has none
making_at-ends : (turns : List TurnMade) (p m : ℕ) → m < length turns → (turn_at turns m).process ≡ p → is_some (turn_at turns m).reply ≡ true
    → making_at turns p (m + 1) ≡ not_begun (answered_by p (take m turns) + 1)
unfolding of_turns
making_at-ends turns p m within own answered =
    ap (of_turns turns (answered_by p (take (m + 1) turns))) none ∙ ap (λ (k : ℕ). of_turns turns k []) number where
      number : answered_by p (take (m + 1) turns) ≡ answered_by p (take m turns) + 1
      number =
          omega (arith, answered_by-more turns m p within, ap {B = ℕ} (λ (b : Bool). cond (b && is_some (turn_at turns m).reply) 1 0) (eq-eqb (turn_at turns m).process p own), ap {B = ℕ} (λ (b : Bool). cond b 1 0) answered)

      later : (j : ℕ) → j < m + 1 → is_turn_of turns p (answered_by p (take (m + 1) turns)) j ≡ false
      later j below =
          ap (λ (b : Bool). ((turn_at turns j).process == p) && b)
          (ne_eqb (answered_by p (take j turns)) (answered_by p (take (m + 1) turns)) (omega (arith, number, answered-rises turns p j m (omega (arith, below)))))
          ∙ and-false ((turn_at turns j).process == p)

      none : filter (is_turn_of turns p (answered_by p (take (m + 1) turns))) (range_with_len 0 (m + 1)) ≡ []
      none = filter-none (is_turn_of turns p (answered_by p (take (m + 1) turns))) (m + 1) later

-- a turn of the process by whether it answers
making_at-own : (turns : List TurnMade) (p m : ℕ) (b : Bool) → m < length turns → (turn_at turns m).process ≡ p → is_some (turn_at turns m).reply ≡ b
    → making_at turns p (m + 1) ≡ cond b (not_begun (answered_by p (take m turns) + 1)) (with_turn (making_at turns p m) (turn_at turns m) m)
making_at-own turns p m true within own is = making_at-ends turns p m within own is
making_at-own turns p m false within own is = making_at-goes_on turns p m within own is

-- what is known after a turn
pub making_at-more : (turns : List TurnMade) (p m : ℕ) → m < length turns
    → making_at turns p (m + 1) ≡ after_turn (making_at turns p m) (turn_at turns m) p m
making_at-more turns p m within =
    elim (cases_eq (turn_at turns m).process p) as (λ _. making_at turns p (m + 1) ≡ after_turn (making_at turns p m) (turn_at turns m) p m) [
      | inl same ↦
          making_at-own turns p m (is_some (turn_at turns m).reply) within same refl
          ∙ ap (λ (b : Bool). cond b (cond (is_some (turn_at turns m).reply) (not_begun (answered_by p (take m turns) + 1)) (with_turn (making_at turns p m) (turn_at turns m) m)) (making_at turns p m))
          (sym (eq-eqb (turn_at turns m).process p same))
      | inr other ↦
          making_at-other turns p m within other
          ∙ ap (λ (b : Bool). cond b (cond (is_some (turn_at turns m).reply) (not_begun (answered_by p (take m turns) + 1)) (with_turn (making_at turns p m) (turn_at turns m) m)) (making_at turns p m))
          (sym (ne_eqb (turn_at turns m).process p other))
    ]

map-one : (f : ℕ → Span) (b : Bool) (m : ℕ) → map f (cond b (m ∷ []) []) ≡ cond b (f m ∷ []) []
map-one f true m = refl
map-one f false m = refl

-- the call that a turn ends, by what was known before it
span_at-ended : (turns : List TurnMade) (p m : ℕ) → span_at turns p m ≡ ended (with_turn (making_at turns p m) (turn_at turns m) m) p m (turn_at turns m).reply
span_at-ended turns p m =
    ap (λ (steps : ℕ). record { process = p; number = answered_by p (take m turns); first = unwrap_or (slice_get (turns_before turns p m) 0) m; last = m; steps = steps; exchanges = count_by (makes_exchange turns) (turns_before turns p m ++ m ∷ []); new_records = count_by (counts_record turns) (turns_before turns p m ++ m ∷ []); reply = (turn_at turns m).reply }) (count-push (makes_step turns) (turns_before turns p m) m)
    ∙ (ap (λ (exchanges : ℕ). record { process = p; number = answered_by p (take m turns); first = unwrap_or (slice_get (turns_before turns p m) 0) m; last = m; steps = count_by (makes_step turns) (turns_before turns p m) + cond (is_some (turn_at turns m).step) 1 0; exchanges = exchanges; new_records = count_by (counts_record turns) (turns_before turns p m ++ m ∷ []); reply = (turn_at turns m).reply }) (count-push (makes_exchange turns) (turns_before turns p m) m)
    ∙ ap (λ (new : ℕ). record { process = p; number = answered_by p (take m turns); first = unwrap_or (slice_get (turns_before turns p m) 0) m; last = m; steps = count_by (makes_step turns) (turns_before turns p m) + cond (is_some (turn_at turns m).step) 1 0; exchanges = count_by (makes_exchange turns) (turns_before turns p m) + cond (makes_exchange turns m) 1 0; new_records = new; reply = (turn_at turns m).reply }) (count-push (counts_record turns) (turns_before turns p m) m))

pub spans_by-more : (turns : List TurnMade) (p m : ℕ)
    → spans_by turns p m ++ ended_by (making_at turns p m) (turn_at turns m) p m ≡ spans_by turns p (m + 1)
spans_by-more turns p m = sym whole where
  whole : spans_by turns p (m + 1) ≡ spans_by turns p m ++ ended_by (making_at turns p m) (turn_at turns m) p m
  whole =
      ap (map (span_at turns p)) (filter-range_more (answers turns p) m)
      ∙ (map-append (span_at turns p) (filter (answers turns p) (range_with_len 0 m)) (cond (answers turns p m) (m ∷ []) [])
      ∙ (ap (λ (xs : List Span). spans_by turns p m ++ xs) (map-one (span_at turns p) (answers turns p m) m)
      ∙ ap (λ (s : Span). spans_by turns p m ++ cond (answers turns p m) (s ∷ []) []) (span_at-ended turns p m)))

-- each call is of one of the processes
All-range : (P : Span → Type 0) (f : ℕ → List Span) (n : ℕ) → ((p : ℕ) → p < n → All P (f p)) → All P (flat_map f (range_with_len 0 n))
All-range P f zero each = All-nil P
All-range P f (suc n) each =
    subst (λ (k : ℕ). All P (flat_map f (range_with_len 0 k))) (add-one n)
    (subst (λ (xs : List Span). All P xs) (flat_map-range_more f [] n)
    (All-append P (flat_map f (range_with_len 0 n)) (f n) (All-range P f n (λ p below. each p (omega (arith, below)))) (each n (omega arith))))

pub All-all_spans : (turns : List TurnMade) (processes : ℕ) → All (λ (s : Span). s.process < processes) (all_spans turns processes)
All-all_spans turns processes =
    All-range (λ (s : Span). s.process < processes) (spans_of turns) processes
    (λ p below. All-map (λ (s : Span). s.process < processes) (span_at turns p) (filter (answers turns p) (range_with_len 0 (length turns))) (λ k d within. below))
