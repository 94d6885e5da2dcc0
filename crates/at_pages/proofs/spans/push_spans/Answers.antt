use Rattle.std.proofs.Common.{ℕ, ◌++◌, ◌<◌, ◌∙◌, List, ap, append_assoc, arith, length, sym}
use Rattle.at_pages.proofs.Prelude.{turn_at, TurnMade, after_turn, ended_by, Making, Span}
use Rattle.at_pages.proofs.SpanLaws.{making_at, making_at-more, spans_by, spans_by-more}
use Rattle.at_pages.proofs.spans.push_spans.Goals as goal

pub loop-i-preserved : goal.loop-i-preserved
loop-i-preserved c =
    let i : ℕ = c.loop-i.i in
    let p : ℕ = c.args.process in
    let turns : List TurnMade = c.args.turns.now in
    let t : TurnMade = turn_at turns i in
    let within : i < length turns = omega (arith, c.loop-i-test.true, c.loop-i.auto.i-end) in
    record {
      making = c.after_turn-making.ensures.made ∙ (ap (λ (o : Making). after_turn o t p i) c.loop-i.invariant.making ∙ sym (making_at-more turns p i within));
      few = c.after_turn-making.ensures.few;
      out =
          c.in_ok-push_ended.ensures
          ∙ (ap (λ (o : Making). c.loop-i.out.items ++ ended_by o t p i) c.loop-i.invariant.making
          ∙ (ap (λ (xs : List Span). xs ++ ended_by (making_at turns p i) t p i) c.loop-i.invariant.out
          ∙ (append_assoc c.args.out.now.items (spans_by turns p i) (ended_by (making_at turns p i) t p i)
          ∙ ap (λ (xs : List Span). c.args.out.now.items ++ xs) (spans_by-more turns p i))));
    }
