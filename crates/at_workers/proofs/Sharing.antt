-- A job may be moved to another thread: each part of it by itself, since one search over all of them meets its limit.
use Rattle.at_workers.proofs.Prelude.{IsSend, sendable, view_send, declared_send, crosses, receipt_send, pass_send}
use Rattle.at_workers.specs.contracts.cost.CallCost as cost
use Rattle.at_workers.specs.contracts.job.Job as job

cost_send : IsSend cost.the_row
cost_send = search (sendable, crosses) depth 20

inside_send : IsSend job.TheInside.the_row
inside_send = search (sendable, crosses, declared_send, pass_send, receipt_send, cost_send) depth 20

pub job_send : IsSend job.the_row
job_send = view_send job.TheInside.the_row _ _ _ _ inside_send
