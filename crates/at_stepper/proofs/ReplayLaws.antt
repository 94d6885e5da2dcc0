-- The turns of a schedule, one after another.
use Rattle.std.proofs.Common.{◌≡◌, ℕ, zero, suc, ◌+◌, ◌<◌, ◌≤◌, ◌&&◌, ◌⊎◌, Bool, cond, List, [], ◌∷◌, ◌++◌, length, get_or, slice_index, refl, sym, ap, subst, ◌∙◌, append_assoc, arith, inl, inr, zero-add}
use Rattle.std.specs.Prelude.{is_some}
use Rattle.at_stepper.proofs.Prelude.{cases_eq, cases_lt, eq-eqb, ne_eqb, append-nil, get_or_past, length-map, map-id, map-range_with_len_more, range_with_len, BookTerms, Call, Receipt, calls_left_of, IsMadeAs, goes_on, starts, HasTurnedBy, IsSameRun, TurnAll, TurnBy, TurnInRounds, AreTurnsBy, answered_by, rounds_of_turns, IsNewStepper, IsOver, StepperTerms, TurnsOne, all_turns_left, calls_left, TurnMade, Turned}
use Rattle.at_stepper.proofs.SteppingLaws.{calls_left-at}
use Rattle.at_stepper.proofs.TurnCounts.{answered_by-push, answers-cond, some_of, is_some-reply}

-- so many processes were idle, and nothing has changed
pub record WereIdle (count : ℕ) (before after : StepperTerms) : Type 0 where
  pub same : after ≡ before
  pub idle : (q : ℕ) → q < count → slice_index (calls_left before) q ≡ 0

-- that, or fewer turns are left
abbrev pub HasGoneOn : ℕ → StepperTerms → StepperTerms → Type 0
HasGoneOn count before after = WereIdle count before after ⊎ (all_turns_left after < all_turns_left before)

-- the same run is of itself, and of one before that
pub IsSameRun-refl : (s : StepperTerms) → IsSameRun s s
IsSameRun-refl s = record { ledger = refl; files = refl; count = refl }

pub IsSameRun-trans : (before middle after : StepperTerms) → IsSameRun before middle → IsSameRun middle after → IsSameRun before after
IsSameRun-trans before middle after first second = record {
  ledger = second.ledger ∙ first.ledger;
  files = second.files ∙ first.files;
  count = second.count ∙ first.count;
}

-- processes that aren't there have no calls left
pub calls_left-past : (s : StepperTerms) (p : ℕ) → length s.callers ≤ p → slice_index (calls_left s) p ≡ 0
calls_left-past s p past = get_or_past (calls_left s) p 0 (omega (arith, past, length-map s.callers calls_left_of))

-- all are idle, where the first so many are
pub IsOver-idle : (s : StepperTerms) (count : ℕ) → length s.callers ≡ count → ((q : ℕ) → q < count → slice_index (calls_left s) q ≡ 0) → IsOver s
IsOver-idle s count sized idle q =
    elim (cases_lt q count) as (λ _. slice_index (calls_left s) q ≡ 0) [
      | inl within ↦ idle q within
      | inr past ↦ calls_left-past s q (omega (arith, sized, past))
    ]

-- one process more has gone on
pub HasGoneOn-more : (count : ℕ) (before middle after : StepperTerms) → HasGoneOn count before middle
    → (slice_index (calls_left middle) count ≡ 0 → after ≡ middle) → (0 < slice_index (calls_left middle) count → all_turns_left after < all_turns_left middle)
    → HasGoneOn (count + 1) before after
HasGoneOn-more count before middle after was idle busy =
    elim (cases_eq (slice_index (calls_left middle) count) 0) as (λ _. HasGoneOn (count + 1) before after) [
      | inl none ↦
          let stays : after ≡ middle = idle none in
          elim was as (λ _. HasGoneOn (count + 1) before after) [
            | inl were ↦ inl (record {
              same = stays ∙ were.same;
              idle = λ q within.
                  elim (cases_eq q count) as (λ _. slice_index (calls_left before) q ≡ 0) [
                    | inl here ↦
                        ap (λ n. slice_index (calls_left before) n) here
                        ∙ (ap (λ (s : StepperTerms). slice_index (calls_left s) count) (sym were.same) ∙ none)
                    | inr other ↦ were.idle q (omega (arith, within, other))
                  ];
            })
            | inr fewer ↦ inr (omega (arith, fewer, ap (λ (s : StepperTerms). all_turns_left s) stays))
          ]
      | inr some ↦
          let fewer : all_turns_left after < all_turns_left middle = busy (omega (arith, some)) in
          elim was as (λ _. HasGoneOn (count + 1) before after) [
            | inl were ↦ inr (omega (arith, fewer, ap (λ (s : StepperTerms). all_turns_left s) were.same))
            | inr less ↦ inr (omega (arith, fewer, less))
          ]
    ]

-- all have
pub HasGoneOn-all : (count : ℕ) (before after : StepperTerms) → length before.callers ≡ count → HasGoneOn count before after
    → IsOver before ⊎ (all_turns_left after < all_turns_left before)
HasGoneOn-all count before after sized gone =
    elim gone as (λ _. IsOver before ⊎ (all_turns_left after < all_turns_left before)) [
      | inl were ↦ inl (IsOver-idle before count sized were.idle)
      | inr fewer ↦ inr fewer
    ]

-- no turns, and one list of turns after another
pub TurnBy-none : (turns : List TurnMade) (s : StepperTerms) → TurnBy [] turns s turns s
TurnBy-none turns s b files earlier was = subst (λ (entries : List ℕ). HasTurnedBy b files entries turns s) (sym (append-nil earlier)) was

pub TurnBy-then : (xs ys : List ℕ) (was middle turns : List TurnMade) (s t u : StepperTerms) → TurnBy xs was s middle t → TurnBy ys middle t turns u
    → TurnBy (xs ++ ys) was s turns u
TurnBy-then xs ys was middle turns s t u first second b files earlier turned =
    subst (λ (entries : List ℕ). HasTurnedBy b files entries turns u) (append_assoc earlier xs ys)
    (second b files (earlier ++ xs) (first b files earlier turned))

-- a process that is idle makes no turn
pub TurnBy-idle : (turns : List TurnMade) (s : StepperTerms) (p : ℕ) → slice_index (calls_left s) p ≡ 0 → TurnBy (p ∷ []) turns s turns s
TurnBy-idle turns s p none b files earlier was = record {
  made = AreTurnsBy.idle earlier turns p was.made (omega (arith, was.left p, none));
  runs = was.runs;
  left = was.left;
}

-- a process that isn't idle makes a turn
pub TurnBy-turned : (turns : List TurnMade) (s u : StepperTerms) (t : TurnMade) (turned : Turned) → 0 < slice_index (calls_left s) t.process
    → (one : TurnsOne t.process turned s u) → IsMadeAs turned s u t one → TurnBy (t.process ∷ []) turns s (turns ++ t ∷ []) u
TurnBy-turned turns s u t turned busy one made b files earlier was =
    let p = t.process in
    let here = one.left ∙ ap (λ n. slice_index (calls_left u) p + n) (answers-cond turned (is_some t.reply) (is_some-reply turned t made.reply)) in record {
      made = AreTurnsBy.turn earlier turns t was.made (λ idle. absurd (omega (arith, was.left p, idle, busy)));
      runs = goes_on turns s u t turned was.runs one made;
      left = λ q.
          elim (cases_eq q p) as (λ _. answered_by q (turns ++ t ∷ []) + slice_index (calls_left u) q ≡ length (get_or files q [])) [
            | inl same ↦
                subst (λ n. answered_by n (turns ++ t ∷ []) + slice_index (calls_left u) n ≡ length (get_or files n [])) (sym same)
                (omega (
                  arith,
                  was.left p,
                  here,
                  answered_by-push p turns t,
                  ap {B = ℕ} (λ (x : Bool). cond (x && is_some t.reply) 1 0) (eq-eqb p p refl),
                ))
            | inr apart ↦
                omega (
                  arith,
                  was.left q,
                  one.others_left q apart,
                  answered_by-push q turns t,
                  ap {B = ℕ} (λ (x : Bool). cond (x && is_some t.reply) 1 0) (ne_eqb p q (λ e. apart (sym e))),
                )
          ];
    }

-- the processes in turn, with one more
pub range_push : (n : ℕ) → range_with_len 0 (n + 1) ≡ range_with_len 0 n ++ n ∷ []
range_push n =
    sym (map-id (range_with_len 0 (n + 1)))
    ∙ (map-range_with_len_more (λ (x : ℕ). x) 0 n n (zero-add n) ∙ ap (λ (xs : List ℕ). xs ++ n ∷ []) (map-id (range_with_len 0 n)))

-- no round, and one more
pub TurnInRounds-none : (n : ℕ) (turns : List TurnMade) (s : StepperTerms) → TurnInRounds n turns s turns s
unfolding rounds_of_turns
TurnInRounds-none n turns s = record { times = zero; turned = TurnBy-none turns s }

pub TurnInRounds-more : (n : ℕ) (was middle turns : List TurnMade) (s t u : StepperTerms) → TurnInRounds n was s middle t
    → TurnBy (range_with_len 0 n) middle t turns u → TurnInRounds n was s turns u
unfolding rounds_of_turns
TurnInRounds-more n was middle turns s t u rounds round = record {
  times = suc rounds.times;
  turned = TurnBy-then (rounds_of_turns n rounds.times) (range_with_len 0 n) was middle turns s t u rounds.turned round;
}

-- of a new run no call is answered
calls_left-new : (b : BookTerms) (files : List (List Call)) (s : StepperTerms) → IsNewStepper b files s
    → (p : ℕ) → slice_index (calls_left s) p ≡ length (get_or files p [])
calls_left-new b files s new p =
    elim (cases_lt p (length s.callers)) as (λ _. slice_index (calls_left s) p ≡ length (get_or files p [])) [
      | inl within ↦
          let d = some_of s.callers p within in
          let one = new.callers.each p [] d (omega (arith, within, new.callers.count)) in
          omega (
            arith,
            calls_left-at s.callers p d within,
            ap (λ (rs : List Receipt). length rs) one.is_new.unmade,
            ap (λ (calls : List Call). length calls) one.is_new.calls_are,
          )
      | inr past ↦
          omega (
            arith,
            calls_left-past s p past,
            ap (λ (calls : List Call). length calls) (get_or_past files p [] (omega (arith, past, new.callers.count))),
          )
    ]

-- at the start no turn is made
pub HasTurnedBy-none : (b : BookTerms) (files : List (List Call)) (s : StepperTerms) → IsNewStepper b files s → HasTurnedBy b files [] [] s
HasTurnedBy-none b files s new = record {
  made = AreTurnsBy.none;
  runs = starts s new;
  left = λ p. zero-add (slice_index (calls_left s) p) ∙ calls_left-new b files s new p;
}

-- all turns of a schedule
pub TurnAll-over : (n : ℕ) (schedule : List ℕ) (was turns : List TurnMade) (s t u : StepperTerms) → length s.callers ≡ n
    → ((b : BookTerms) (files : List (List Call)) → IsNewStepper b files s → HasTurnedBy b files schedule was t) → TurnInRounds n was t turns u
    → IsOver u → TurnAll schedule s turns u
TurnAll-over n schedule was turns s t u sized turned rounds over b files new =
    let count : length files ≡ n = sym new.callers.count ∙ sized in
    let all = rounds.turned b files schedule (turned b files new) in (
      all.runs,
      record {
        times = rounds.times;
        made = subst (λ m. AreTurnsBy files (schedule ++ rounds_of_turns m rounds.times) turns) (sym count) all.made;
        over = λ p within. omega (arith, all.left p, over p);
      },
    )
