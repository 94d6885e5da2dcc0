use Rattle.std.proofs.Common.{◌≡◌}
use Rattle.at_pages.proofs.Prelude.{all_spans}
use Rattle.at_pages.proofs.spans.all_spans.Given as goal

-- the calls of the processes so far are there
abbrev pub invariant-loop-process : goal.invariant-loop-process
invariant-loop-process l = l.spans.items ≡ all_spans l.turns l.process
