use Rattle.std.proofs.Common.{◌≡◌, ℕ, ◌<◌, ◌++◌, ◌∙◌, All, List, [], ap, arith, subst, sym}
use Rattle.at_pages.proofs.Prelude.{all_spans, spans_of, Span}
use Rattle.at_pages.proofs.SpanLaws.{All-all_spans}
use Rattle.at_pages.proofs.TextLaws.{flat_map-range_more}
use Rattle.at_pages.proofs.spans.all_spans.Goals as goal

pub loop-process-preserved : goal.loop-process-preserved
loop-process-preserved c =
    c.in_ok-push_spans.ensures
    ∙ (ap (λ (xs : List Span). xs ++ spans_of c.args.turns.now c.loop-process.process) c.loop-process.invariant
    ∙ flat_map-range_more (spans_of c.args.turns.now) [] c.loop-process.process)

pub returns-clause-processes : goal.returns-clause-processes
returns-clause-processes c =
    let over : c.loop-process.process ≡ c.args.processes = omega (arith, c.loop-process-test.false, c.loop-process.auto.process-end) in
    subst (λ (xs : List Span). All (λ (s : Span). s.process < c.args.processes) xs) (sym c.loop-process.invariant)
    (subst (λ (n : ℕ). All (λ (s : Span). s.process < c.args.processes) (all_spans c.args.turns.now n)) (sym over) (All-all_spans c.args.turns.now c.args.processes))
