-- A call and a receipt may be moved to another thread.
use Rattle.at_log.proofs.Prelude.{IsSend, sendable, crosses}
use Rattle.at_ledger.specs.contracts.call.Call as call
use Rattle.at_log.specs.contracts.receipt.Receipt as receipt

pub call_send : IsSend call.the_row
call_send = search (sendable, crosses) depth 40 fits 100000

pub receipt_send : IsSend receipt.the_row
receipt_send = search (sendable, crosses, call_send) depth 40 fits 100000
