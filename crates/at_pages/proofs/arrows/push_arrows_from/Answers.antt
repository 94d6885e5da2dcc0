use Rattle.std.proofs.Common.{ℕ, ◌<◌, ◌∙◌, ◌++◌, List, Option, ap, arith, length}
use Rattle.at_pages.proofs.Prelude.{TurnMade, arrow_text, decided_for, own_turn}
use Rattle.at_pages.proofs.TextLaws.{flat_map-range_more}
use Rattle.at_pages.proofs.TurnLaws.{own_turn-read}
use Rattle.at_pages.proofs.arrows.push_arrows_from.Goals as goal

pub loop-k-preserved : goal.loop-k-preserved
loop-k-preserved c =
    let names = c.args.names.now in
    let b = c.args.book.now in
    let turns : List TurnMade = c.args.turns.now in
    let p : ℕ = c.args.process in
    let k : ℕ = c.loop-k.k in
    let out : List ℕ = c.loop-k.out.items in
    let text_of : ℕ → List ℕ = λ j. arrow_text names (own_turn turns p j) p (decided_for b turns p j) in
    let own = c.as_slice-own.ensures.value ∙ c.in_ok-own.ensures.turns in
    let within : k < length c.as_slice-own.result.now = omega (arith, c.loop-k-test.true, c.loop-k.auto.k-end) in
    c.in_ok-push_arrow.ensures
    ∙ (ap (λ (m : ℕ). out ++ arrow_text names m p c.decided_for-owner.result) (own_turn-read turns p k c.as_slice-own.result.now own within)
    ∙ (ap (λ (o : Option ℕ). out ++ arrow_text names (own_turn turns p k) p o) c.decided_for-owner.ensures.owner
    ∙ (ap (λ (text : List ℕ). text ++ text_of k) c.loop-k.invariant ∙ flat_map-range_more text_of c.args.out.now.items k)))
