use Rattle.std.proofs.Common.{ap}
use Rattle.at_calling.proofs.Prelude.{Call, Receipt}
use Rattle.at_calling.proofs.calling.receipt_of.Goals as goal

pub returns : goal.returns
returns c = ap (λ (x : Call). let r : Receipt = record { call = x; reply = c.args.answer.0; at = c.args.answer.1 } in r) c.copy.ensures
