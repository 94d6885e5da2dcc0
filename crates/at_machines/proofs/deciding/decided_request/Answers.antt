use Rattle.std.proofs.Common.{inr, refl}
use Rattle.at_machines.proofs.deciding.decided_request.Goals as goal

-- the seat sees the decision that names it
pub start-requires : goal.start-requires
start-requires c = inr (c.args.round, c.args.decision.now, c.requires, refl, refl)

pub returns : goal.returns
returns c = c.start.ensures
