-- How many calls of each process the first turns of a list have answered.
use Rattle.std.proofs.Common.{◌≡◌, ◌≢◌, ℕ, ◌+◌, ◌<◌, ◌≤◌, ◌==◌, ◌&&◌, ◌∙◌, Bool, true, false, cond, List, get_or, length, refl, replicate, set, subst, sym, take, ap, arith, inl, inr}
use Rattle.std.specs.Prelude.{is_some}
use Rattle.at_tables.proofs.Prelude.{cases_eq, eq-eqb, ne_eqb, get_or-replicate, get_or-set_other, get_or-set_same, length-set, take_more, sum_by_push, turn_at, answered_by, TurnMade}

-- each process has its count, of at most one answer a turn
pub record AreCounted (turns : List TurnMade) (i : ℕ) (answered : List ℕ) : Type 0 where
  pub count : length answered ≡ 16
  pub each : (p : ℕ) → p < 16 → get_or answered p 0 ≡ answered_by p (take i turns)
  pub few : (p : ℕ) → p < 16 → get_or answered p 0 ≤ i

-- what the turn adds to the count of a process
abbrev pub added : ℕ → TurnMade → ℕ
added p t = cond ((t.process == p) && is_some t.reply) 1 0

pub answered_by-more : (turns : List TurnMade) (i p : ℕ) → i < length turns
    → answered_by p (take (i + 1) turns) ≡ answered_by p (take i turns) + added p (turn_at turns i)
answered_by-more turns i p within =
    ap (answered_by p) (take_more turns i _ within)
    ∙ sum_by_push (λ (x : TurnMade). cond ((x.process == p) && is_some x.reply) 1 0) (take i turns) (turn_at turns i)

added-small : (p : ℕ) (t : TurnMade) → added p t ≤ 1
added-small p t = bit ((t.process == p) && is_some t.reply) where
  bit : (x : Bool) → cond {A = ℕ} x 1 0 ≤ 1
  bit true = omega arith
  bit false = omega arith

-- no turn has answered a call yet
pub AreCounted-none : (turns : List TurnMade) → AreCounted turns 0 (replicate 16 0)
AreCounted-none turns = record {
  count = refl;
  each = λ p small. get_or-replicate {A = ℕ} 16 p 0 0 small;
  few = λ p small. omega (arith, get_or-replicate {A = ℕ} 16 p 0 0 small);
}

-- what a turn adds to its own process, and to another
pub own-added : (t : TurnMade) → added t.process t ≡ cond (is_some t.reply) 1 0
own-added t = ap {B = ℕ} (λ (x : Bool). cond (x && is_some t.reply) 1 0) (eq-eqb t.process t.process refl)

pub other-added : (p : ℕ) (t : TurnMade) → t.process ≢ p → added p t ≡ 0
other-added p t apart = ap {B = ℕ} (λ (x : Bool). cond (x && is_some t.reply) 1 0) (ne_eqb t.process p apart)

-- the next turn is counted at its process
pub AreCounted-more : (turns : List TurnMade) (i : ℕ) (answered : List ℕ) → i < length turns → (turn_at turns i).process < 16
    → AreCounted turns i answered
    → AreCounted turns (i + 1) (set answered (turn_at turns i).process (get_or answered (turn_at turns i).process 0 + cond (is_some (turn_at turns i).reply) 1 0))
AreCounted-more turns i answered within small are = record {
  count = length-set answered t.process more ∙ are.count;
  each = λ p below. now p below ∙ sym (answered_by-more turns i p within);
  few = λ p below. omega (arith, now p below, are.each p below, are.few p below, added-small p t);
} where
  t : TurnMade
  t = turn_at turns i

  more : ℕ
  more = get_or answered t.process 0 + cond (is_some t.reply) 1 0

  now : (p : ℕ) → p < 16 → get_or (set answered t.process more) p 0 ≡ answered_by p (take i turns) + added p t
  now p below =
      elim (cases_eq p t.process) as (λ _. get_or (set answered t.process more) p 0 ≡ answered_by p (take i turns) + added p t) [
        | inl same ↦
            subst (λ (q : ℕ). get_or (set answered t.process more) q 0 ≡ answered_by q (take i turns) + added q t) (sym same)
            (get_or-set_same answered t.process more 0 (omega (arith, small, are.count))
            ∙ omega (arith, are.each t.process small, own-added t))
        | inr other ↦
            get_or-set_other answered t.process p more 0 other
            ∙ omega (arith, are.each p below, other-added p t (λ is. other (sym is)))
      ]
