-- Where the records that receipts name stand in a list.
use Rattle.std.proofs.Common.{◌≡◌, ℕ, ◌+◌, ◌-◌, ◌<◌, ◌==◌, zero, suc, true, false, cond, List, [], ◌∷◌, length, take, sym, ap, subst, ◌∙◌, arith, inl, inr}
use Rattle.at_log.proofs.Prelude.{cases_Bool, cases_eq, eq-eqb, ne_eqb, publications_of-nil, publications_of-other, publications_of-own, publication_at, is_round, count_of, Publication, own_position, round_position}

-- the publication of a number of a process stands there, and so many of the process before it
pub record IsOwnAt (process number : ℕ) (list : List Publication) (m : ℕ) : Type 0 where
  pub within : m < length list
  pub own : (publication_at list m).process ≡ process
  pub before : count_of process (take m list) ≡ number

count_of-cons-own : (process : ℕ) (x : Publication) (xs : List Publication) → x.process ≡ process → count_of process (x ∷ xs) ≡ count_of process xs + 1
count_of-cons-own process x xs own =
    subst (λ p. count_of p (x ∷ xs) ≡ count_of p xs + 1) own (omega (arith, ap length (publications_of-own x xs)))

count_of-cons-other : (process : ℕ) (x : Publication) (xs : List Publication) → (x.process ≡ process → ⊥) → count_of process (x ∷ xs) ≡ count_of process xs
count_of-cons-other process x xs other = ap length (publications_of-other process x xs other)

pub own_position-at : (process number : ℕ) (list : List Publication) → number < count_of process list → IsOwnAt process number list (own_position process number list)
unfolding own_position
own_position-at process number [] within = absurd (omega (arith, within, ap length (publications_of-nil process)))
own_position-at process number (x ∷ xs) within =
    elim (cases_eq x.process process) as (λ _. IsOwnAt process number (x ∷ xs) (own_position process number (x ∷ xs))) [
      | inl same ↦
          let test = ap (λ t. cond t (cond (number == 0) 0 (own_position process (number - 1) xs + 1)) (own_position process number xs + 1)) (eq-eqb x.process process same) in
          elim (cases_eq number 0) as (λ _. IsOwnAt process number (x ∷ xs) (own_position process number (x ∷ xs))) [
            | inl first ↦
                let at : own_position process number (x ∷ xs) ≡ 0 = test ∙ ap (λ t. cond t 0 (own_position process (number - 1) xs + 1)) (eq-eqb number 0 first) in
                subst (IsOwnAt process number (x ∷ xs)) (sym at)
                (record { within = omega arith; own = same; before = omega (arith, first, ap length (publications_of-nil process)) })
            | inr later ↦
                let rest = own_position-at process (number - 1) xs (omega (arith, within, later, count_of-cons-own process x xs same)) in
                let j = own_position process (number - 1) xs in
                let at : own_position process number (x ∷ xs) ≡ suc j =
                test ∙ (ap (λ t. cond t 0 (own_position process (number - 1) xs + 1)) (ne_eqb number 0 later) ∙ omega arith) in
                subst (IsOwnAt process number (x ∷ xs)) (sym at)
                (record {
                  within = omega (arith, rest.within);
                  own = rest.own;
                  before = omega (arith, rest.before, later, count_of-cons-own process x (take j xs) same);
                })
          ]
      | inr apart ↦
          let rest = own_position-at process number xs (omega (arith, within, count_of-cons-other process x xs apart)) in
          let j = own_position process number xs in
          let at : own_position process number (x ∷ xs) ≡ suc j =
          ap (λ t. cond t (cond (number == 0) 0 (own_position process (number - 1) xs + 1)) (own_position process number xs + 1)) (ne_eqb x.process process apart) ∙ omega arith in
          subst (IsOwnAt process number (x ∷ xs)) (sym at)
          (record {
            within = omega (arith, rest.within);
            own = rest.own;
            before = omega (arith, rest.before, count_of-cons-other process x (take j xs) apart);
          })
    ]

-- the first record of a round stands there
pub record IsRoundAt (account round : ℕ) (list : List Publication) (m : ℕ) : Type 0 where
  pub within : m < length list
  pub here : is_round account round (publication_at list m).entry ≡ true
  pub first : (k : ℕ) → k < m → is_round account round (publication_at list k).entry ≡ false

-- no earlier position has a record of the round
earlier : (account round : ℕ) (x : Publication) (xs : List Publication) (i : ℕ) → is_round account round x.entry ≡ false
    → ((k : ℕ) → k < round_position account round xs → is_round account round (publication_at xs k).entry ≡ false)
    → i < suc (round_position account round xs) → is_round account round (publication_at (x ∷ xs) i).entry ≡ false
unfolding round_position
earlier account round x xs zero not_here before within = not_here
earlier account round x xs (suc i) not_here before within = before i (omega (arith, within))

pub round_position-at : (account round : ℕ) (list : List Publication) (k : ℕ) → k < length list
    → is_round account round (publication_at list k).entry ≡ true → IsRoundAt account round list (round_position account round list)
unfolding round_position
round_position-at account round [] k within there = absurd (omega arith)
round_position-at account round (x ∷ xs) zero within there =
    let at : round_position account round (x ∷ xs) ≡ 0 = ap (λ t. cond t 0 (round_position account round xs + 1)) there in
    subst (IsRoundAt account round (x ∷ xs)) (sym at)
    (record { within = omega arith; here = there; first = λ j before. absurd (omega (arith, before)) })
round_position-at account round (x ∷ xs) (suc k) within there =
    elim (cases_Bool (is_round account round x.entry)) as (λ _. IsRoundAt account round (x ∷ xs) (round_position account round (x ∷ xs))) [
      | inl here ↦
          let at : round_position account round (x ∷ xs) ≡ 0 = ap (λ t. cond t 0 (round_position account round xs + 1)) here in
          subst (IsRoundAt account round (x ∷ xs)) (sym at)
          (record { within = omega arith; here = here; first = λ j before. absurd (omega (arith, before)) })
      | inr later ↦
          let rest = round_position-at account round xs k (omega (arith, within)) there in
          let j = round_position account round xs in
          let at : round_position account round (x ∷ xs) ≡ suc j = ap (λ t. cond t 0 (round_position account round xs + 1)) later ∙ omega arith in
          subst (IsRoundAt account round (x ∷ xs)) (sym at)
          (record { within = omega (arith, rest.within); here = rest.here; first = λ i before. earlier account round x xs i later rest.first before })
    ]
