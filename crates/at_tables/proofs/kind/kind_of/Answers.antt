use Rattle.std.proofs.Common.{arith}
use Rattle.at_tables.proofs.Prelude.{common_steps}
use Rattle.at_tables.proofs.kind.kind_of.Goals as goal

pub payment_kind-requires : goal.payment_kind-requires
payment_kind-requires c = grind (arith, common_steps)
