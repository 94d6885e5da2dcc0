use Rattle.std.proofs.Common.{◌≡◌, ◌++◌}
use Rattle.at_pages.proofs.Prelude.{IsFew}
use Rattle.at_pages.proofs.SpanLaws.{making_at, spans_by}
use Rattle.at_pages.proofs.spans.push_spans.Given as goal

-- the calls that the turns so far have ended are there, and it is known what they made of the next one
abbrev pub invariant-loop-i : goal.invariant-loop-i
invariant-loop-i l = record {
  making : l.making ≡ making_at l.turns l.process l.i;
  few : IsFew l.making l.i;
  out : l.out.items ≡ l.initial.out.items ++ spans_by l.turns l.process l.i;
}
