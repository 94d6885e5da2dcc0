use Rattle.at_commands.proofs.Prelude.{sendable, crosses, pass_send}
use Rattle.at_object.proofs.ledger.Ledger.TheSendSync as ledger
use Rattle.at_commands.proofs.opening.open_and_load.Goals as goal

-- the new ledger and its passes are moved to the thread that reads the files
pub join_mut-requires-send-A : goal.join_mut-requires-send-A
join_mut-requires-send-A g c κs within = search (sendable, crosses, ledger.the_send, pass_send) depth 20
