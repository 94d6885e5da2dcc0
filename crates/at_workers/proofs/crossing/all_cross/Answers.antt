use Rattle.at_workers.proofs.Prelude.{sendable}
use Rattle.at_workers.proofs.Sharing.{job_send}
use Rattle.at_workers.proofs.crossing.all_cross.Goals as goal

pub is_send-requires-send-T : goal.is_send-requires-send-T
is_send-requires-send-T c κs = search (sendable, job_send) depth 20
