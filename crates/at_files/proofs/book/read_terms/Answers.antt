use Rattle.std.proofs.Common.{◌∙◌, arith}
use Rattle.at_files.proofs.Prelude.{common_steps}
use Rattle.at_files.proofs.Faults.{Err-same}
use Rattle.at_files.proofs.book.read_terms.Goals as goal

pub returns-in-Err-clause-bad : goal.returns-in-Err-clause-bad
returns-in-Err-clause-bad c = λ b same. c.read_title.ensures.bad b (c.in-Err.is ∙ Err-same _ _ same)

pub returns-in-Err-read_processes-clause-bad : goal.returns-in-Err-read_processes-clause-bad
returns-in-Err-read_processes-clause-bad c = λ b same. c.in-Ok.ensures.ok ∙ c.read_processes.ensures.bad b (c.in-Err-read_processes.is ∙ Err-same _ _ same)

pub returns-in-Err-read_limits-clause-bad : goal.returns-in-Err-read_limits-clause-bad
returns-in-Err-read_limits-clause-bad c = λ b same.
    c.in-Ok.ensures.ok ∙ c.in-Ok-read_processes.ensures.ok ∙ c.read_limits.ensures.bad b (c.in-Err-read_limits.is ∙ Err-same _ _ same)

pub returns-in-Err-read_accounts-clause-bad : goal.returns-in-Err-read_accounts-clause-bad
returns-in-Err-read_accounts-clause-bad c = λ b same.
    c.in-Ok.ensures.ok ∙ c.in-Ok-read_processes.ensures.ok ∙ c.in-Ok-read_limits.ensures.ok ∙ c.read_accounts.ensures.bad b (c.in-Err-read_accounts.is ∙ Err-same _ _ same)

pub returns-clause-ok : goal.returns-clause-ok
returns-clause-ok c =
    rw (c.in-Ok.ensures.ok ∙ c.in-Ok-read_processes.ensures.ok ∙ c.in-Ok-read_limits.ensures.ok ∙ c.in_default.ensures.ok) c.finish_book.ensures.ok

pub returns-clause-bad : goal.returns-clause-bad
returns-clause-bad c = λ b same.
    rw (c.in-Ok.ensures.ok ∙ c.in-Ok-read_processes.ensures.ok ∙ c.in-Ok-read_limits.ensures.ok ∙ c.in_default.ensures.ok) (c.finish_book.ensures.bad b same)

pub read_accounts-requires-clause-empty : goal.read_accounts-requires-clause-empty
read_accounts-requires-clause-empty c = grind (arith, common_steps)

pub read_limits-requires : goal.read_limits-requires
read_limits-requires c = c.in-Ok-read_processes.ensures.names c.in-Ok.ensures.known
