use Rattle.std.proofs.Common.{arith}
use Rattle.at_files.proofs.ScheduleLaws.{Schedules-written, Schedules-accepted}
use Rattle.at_files.proofs.schedule.read_schedule.Goals as goal

pub returns-clause-schedules : goal.returns-clause-schedules
returns-clause-schedules c = Schedules-written _ _ _ (omega arith) c.read_items.ensures.ok

pub returns-clause-accepts : goal.returns-clause-accepts
returns-clause-accepts c = λ turns schedules. Schedules-accepted _ _ _ turns (omega arith) c.read_items.ensures.bad schedules

pub returns-clause-ok : goal.returns-clause-ok
returns-clause-ok c = c.read_items.ensures.ok

pub returns-clause-bad : goal.returns-clause-bad
returns-clause-bad c = c.read_items.ensures.bad
