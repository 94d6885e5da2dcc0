use Rattle.std.proofs.Common.{◌≡◌, map, take}
use Rattle.at_journal.proofs.Prelude.{line_at}
use Rattle.at_journal.proofs.lines.lines.Given as goal

abbrev pub invariant-loop-one : goal.invariant-loop-one
invariant-loop-one l = l.lines.items ≡ map (line_at l.closing) (take l.one-index l.calls)
