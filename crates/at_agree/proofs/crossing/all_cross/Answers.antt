use Rattle.at_agree.proofs.Prelude.{sendable}
use Rattle.at_agree.proofs.Sharing.{voice_send}
use Rattle.at_agree.proofs.crossing.all_cross.Goals as goal

pub is_send-requires-2-send-T : goal.is_send-requires-2-send-T
is_send-requires-2-send-T c κs = search (sendable, voice_send) depth 20
