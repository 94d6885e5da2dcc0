use Rattle.std.proofs.Common.{Err, ◌∙◌, ap, arith}
use Rattle.at_files.proofs.Prelude.{common_steps}
use Rattle.at_files.proofs.BookAccepted.{Spells-not_bad}
use Rattle.at_files.proofs.BookSpelled.{Spells-book_of_records}
use Rattle.at_files.proofs.book.read_book.Goals as goal

pub returns-in-Ok-clause-spelled : goal.returns-in-Ok-clause-spelled
returns-in-Ok-clause-spelled c = Spells-book_of_records _ c.in-Ok.read.0 c.in-Ok.read.1 (rw c.new-records.ensures at c.in-Ok.ensures.ok) c.in-Ok.ensures.checked c.in-Ok.ensures.names

pub returns-clause-accepts : goal.returns-clause-accepts
returns-clause-accepts c = λ b names spells.
    Spells-not_bad b names _ c.in-Err.fault spells (λ bad same. rw c.new-records.ensures at (c.read_terms.ensures.bad bad (c.in-Err.is ∙ ap Err same)))

pub returns-in-Ok-clause-ok : goal.returns-in-Ok-clause-ok
returns-in-Ok-clause-ok c = grind (arith, common_steps)

pub returns-in-Ok-clause-bad : goal.returns-in-Ok-clause-bad
returns-in-Ok-clause-bad c = grind (arith, common_steps)

pub returns-in-Ok-clause-names : goal.returns-in-Ok-clause-names
returns-in-Ok-clause-names c = grind (arith, common_steps)

pub returns-clause-bad : goal.returns-clause-bad
returns-clause-bad c = grind (arith, common_steps)
