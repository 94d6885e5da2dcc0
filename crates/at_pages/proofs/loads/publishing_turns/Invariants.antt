use Rattle.std.proofs.Common.{◌≡◌, filter}
use Rattle.at_pages.proofs.Prelude.{range_with_len, is_publication_of}
use Rattle.at_pages.proofs.loads.publishing_turns.Given as goal

-- those of the turns so far are there
abbrev pub invariant-loop-i : goal.invariant-loop-i
invariant-loop-i l = l.published.items ≡ filter (is_publication_of l.turns l.process) (range_with_len 0 l.i)
