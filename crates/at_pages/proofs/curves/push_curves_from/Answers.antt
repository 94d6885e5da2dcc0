use Rattle.std.proofs.Common.{ℕ, ◌<◌, ◌∙◌, ◌++◌, List, Option, None, false, ap, arith, length, subst, sym, take}
use Rattle.at_pages.proofs.Prelude.{take_more, turn_at, TurnMade, curve_text, curve_to, publishing_turn, publishing_turns, AreLoads, LoadNumbers}
use Rattle.at_pages.proofs.TextLaws.{flat_map-range_more}
use Rattle.at_pages.proofs.curves.push_curves_from.Goals as goal

pub loop-i-preserved : goal.loop-i-preserved
loop-i-preserved c =
    let turns : List TurnMade = c.args.turns.now in
    let q : ℕ = c.args.from in
    let i : ℕ = c.loop-i.i in
    let out : List ℕ = c.loop-i.out.items in
    let within : i < length turns = omega (arith, c.loop-i-test.true, c.loop-i.auto.i-end) in
    let published =
    c.publishing_turn-published.ensures
    ∙ (ap (λ (xs : List ℕ). publishing_turn xs c.in_ok-first.first) (c.as_slice.ensures.value ∙ c.in_ok-published.ensures)
    ∙ ap (λ (x : Option LoadNumbers). publishing_turn (publishing_turns turns q) x) (c.in_ok-first.ensures.first (take i turns) c.loop-i.invariant.loads)) in
    record {
      out =
          c.in_ok-push_curve.ensures
          ∙ (ap (λ (o : Option ℕ). out ++ curve_text q i (turn_at turns i) o) published
          ∙ (ap (λ (text : List ℕ). text ++ curve_to turns q i) c.loop-i.invariant.out ∙ flat_map-range_more (curve_to turns q) c.args.out.now.items i));
      loads =
          subst (λ (ts : List TurnMade). AreLoads q c.first_load.new.loads ts)
          (sym (take_more turns i (record { process = 0; step = None; reply = None; published = false }) within))
          (c.in_ok-first.ensures.loads (take i turns) c.loop-i.invariant.loads);
    }
