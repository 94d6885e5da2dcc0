use Rattle.std.proofs.Common.{ℕ, ◌<◌, ◌==◌, ◌∙◌, ◌++◌, ◌∷◌, [], All, Bool, List, ap, arith, cond, length, subst, sym}
use Rattle.at_pages.proofs.Prelude.{All-append, turn_at, TurnMade}
use Rattle.at_pages.proofs.TextLaws.{filter-range_more}
use Rattle.at_pages.proofs.TurnLaws.{All-if}
use Rattle.at_pages.proofs.turns.own_turns.Goals as goal

pub loop-i-preserved : goal.loop-i-preserved
loop-i-preserved c =
    let turns : List TurnMade = c.args.turns.now in
    let i : ℕ = c.loop-i.i in
    let is_own : ℕ → Bool = λ m. (turn_at turns m).process == c.args.process in
    let Within : ℕ → Type 0 = λ m. m < length turns in
    let within : i < length turns = omega (arith, c.loop-i-test.true, c.loop-i.auto.i-end) in
    record {
      turns =
          c.in_ok-push_if_own.ensures
          ∙ (ap (λ (xs : List ℕ). xs ++ cond (is_own i) (i ∷ []) []) c.loop-i.invariant.turns
          ∙ sym (filter-range_more is_own i));
      within =
          subst (λ (xs : List ℕ). All Within xs) (sym c.in_ok-push_if_own.ensures)
          (All-append Within c.loop-i.own.items (cond (is_own i) (i ∷ []) []) c.loop-i.invariant.within (All-if (is_own i) i (length turns) within));
    }
