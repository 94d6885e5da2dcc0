use Rattle.std.proofs.Common.{ℕ, ◌<◌, ◌∙◌, ◌++◌, ◌∷◌, [], Bool, false, List, None, ap, arith, length, map, subst, sym, take}
use Rattle.at_pages.proofs.Prelude.{range_with_len, take_more, map-range_with_len_more, TurnMade, decides_at, AreExchanged}
use Rattle.at_pages.proofs.decisions.all_decisions.Goals as goal

pub loop-i-preserved : goal.loop-i-preserved
loop-i-preserved c =
    let turns : List TurnMade = c.args.turns.now in
    let i : ℕ = c.loop-i.i in
    let within : i < length turns = omega (arith, c.loop-i-test.true, c.loop-i.auto.i-end) in
    record {
      decided =
          c.in_ok-push.ensures.items
          ∙ (ap (λ (xs : List Bool). xs ++ c.in_ok-decides.decides ∷ []) c.loop-i.invariant.decided
          ∙ (ap (λ (x : Bool). map (decides_at turns) (range_with_len 0 i) ++ x ∷ []) (c.in_ok-decides.ensures.decides (take i turns) c.loop-i.invariant.cells)
          ∙ sym (map-range_with_len_more (decides_at turns) 0 i i (omega arith))));
      cells =
          subst (λ (ts : List TurnMade). AreExchanged c.decides.new.cells ts) (sym (take_more turns i (record { process = 0; step = None; reply = None; published = false }) within))
          (c.in_ok-decides.ensures.cells (take i turns) c.loop-i.invariant.cells);
    }
