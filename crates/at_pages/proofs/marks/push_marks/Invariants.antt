use Rattle.std.proofs.Common.{◌≡◌, ◌++◌, flat_map}
use Rattle.at_pages.proofs.Prelude.{range_with_len, turn_at, mark_text}
use Rattle.at_pages.proofs.marks.push_marks.Given as goal

-- the marks of the turns so far are there
abbrev pub invariant-loop-i : goal.invariant-loop-i
invariant-loop-i l = l.out.items ≡ l.initial.out.items ++ flat_map (λ m. mark_text l.book l.names m (turn_at l.turns m)) (range_with_len 0 l.i)
