use Rattle.at_agree.proofs.Prelude.{sendable}
use Rattle.at_agree.proofs.Sharing.{vote_send}
use Rattle.at_agree.proofs.agreement.propose_all.Goals as goal

pub for_each_mut-requires-send-T : goal.for_each_mut-requires-send-T
for_each_mut-requires-send-T g c κs = search (sendable, vote_send) depth 20
