use Rattle.std.proofs.Common.{◌≡◌, ◌++◌, take}
use Rattle.at_pages.proofs.Prelude.{items_text}
use Rattle.at_pages.proofs.tables.push_items.Given as goal

-- the lines so far are there
abbrev pub invariant-loop-line : goal.invariant-loop-line
invariant-loop-line l = l.out.items ≡ l.initial.out.items ++ items_text l.names (take l.line-index l.lines)
