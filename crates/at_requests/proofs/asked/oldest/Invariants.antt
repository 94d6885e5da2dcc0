use Rattle.at_requests.proofs.Prelude.{IsFirstBelow}
use Rattle.at_requests.proofs.asked.oldest.Given as goal

-- the oldest so far
abbrev pub invariant-loop-i : goal.invariant-loop-i
invariant-loop-i l = IsFirstBelow l.asked l.done l.i l.first
