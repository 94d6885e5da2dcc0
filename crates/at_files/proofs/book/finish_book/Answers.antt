use Rattle.std.proofs.Common.{arith}
use Rattle.at_files.proofs.Prelude.{common_steps}
use Rattle.at_files.proofs.BookWalk.{book_at_end-finished}
use Rattle.at_files.proofs.book.finish_book.Goals as goal

pub returns-in-Ok-clause-names : goal.returns-in-Ok-clause-names
returns-in-Ok-clause-names c = grind (arith, common_steps)

pub new-requires : goal.new-requires
new-requires c = grind (arith, common_steps)

pub returns-in-Err-clause-bad : goal.returns-in-Err-clause-bad
returns-in-Err-clause-bad c = grind (arith, common_steps)

pub returns-in-Ok-clause-checked : goal.returns-in-Ok-clause-checked
returns-in-Ok-clause-checked c = grind (arith, common_steps)

pub returns-in-Ok-clause-ok : goal.returns-in-Ok-clause-ok
returns-in-Ok-clause-ok c = rw (← c.begun.view_is) (book_at_end-finished _ c.in-Ok.book _ c.in-Ok.ensures.ok c.new.ensures c.in-Ok.ensures.checked)
