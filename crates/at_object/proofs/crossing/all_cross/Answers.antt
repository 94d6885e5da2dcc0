use Rattle.at_object.proofs.Prelude.{sendable}
use Rattle.at_object.proofs.Sharing.{pass_send}
use Rattle.at_object.proofs.crossing.all_cross.Goals as goal

pub is_send-requires-2-send-T : goal.is_send-requires-2-send-T
is_send-requires-2-send-T c κs = search (sendable, pass_send) depth 20
