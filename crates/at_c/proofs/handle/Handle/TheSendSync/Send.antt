use Rattle.at_c.proofs.Prelude.{IsSend, the_row}
use Rattle.at_c.proofs.Sharing.{handle_send}

pub send : IsSend the_row
send = handle_send
