use Rattle.std.proofs.Common.{arith}
use Rattle.at_files.proofs.Prelude.{common_steps}
use Rattle.at_files.proofs.BookWalk.{AreNames-processes_of}
use Rattle.at_files.proofs.book.read_processes.Goals as goal

pub returns-in-Ok-processes_of-clause-names : goal.returns-in-Ok-processes_of-clause-names
returns-in-Ok-processes_of-clause-names c = λ known. AreNames-processes_of c.args.version _ _ known c.in-Ok-processes_of.ensures.ok

pub returns-in-Err-clause-bad : goal.returns-in-Err-clause-bad
returns-in-Err-clause-bad c = grind (arith, common_steps)

pub returns-then-not-found-clause-bad : goal.returns-then-not-found-clause-bad
returns-then-not-found-clause-bad c = grind (arith, common_steps)

pub returns-in-Ok-processes_of-clause-ok : goal.returns-in-Ok-processes_of-clause-ok
returns-in-Ok-processes_of-clause-ok c = grind (arith, common_steps)
