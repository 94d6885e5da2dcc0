use Rattle.std.proofs.Common.{◌≡◌, ◌++◌, take}
use Rattle.at_pages.proofs.Prelude.{contents_of, rows_text}
use Rattle.at_pages.proofs.tables.push_rows.Given as goal

-- the rows so far are there
abbrev pub invariant-loop-span : goal.invariant-loop-span
invariant-loop-span l = l.out.items ≡ l.initial.out.items ++ rows_text l.book l.names (contents_of l.files) (take l.span-index l.spans)
