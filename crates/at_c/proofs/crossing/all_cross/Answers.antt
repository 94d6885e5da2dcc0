use Rattle.at_c.proofs.Prelude.{sendable}
use Rattle.at_c.proofs.Sharing.{caller_send, held_send, opened_send}
use Rattle.at_c.proofs.crossing.all_cross.Goals as goal

pub is_send-requires-send-T : goal.is_send-requires-send-T
is_send-requires-send-T c κs = search (sendable, caller_send) depth 20

pub is_send-requires-2-send-T : goal.is_send-requires-2-send-T
is_send-requires-2-send-T c κs = search (sendable, opened_send) depth 20

pub is_send-requires-3-send-T : goal.is_send-requires-3-send-T
is_send-requires-3-send-T c κs = search (sendable, held_send) depth 20
