use Rattle.std.proofs.Common.{arith}
use Rattle.at_tables.proofs.Prelude.{common_steps}
use Rattle.at_tables.proofs.call_fields.push_call_fields.Goals as goal

pub returns : goal.returns
returns c = grind (arith, common_steps)

pub account-requires : goal.account-requires
account-requires c = grind (arith, common_steps)

pub kind_of-requires : goal.kind_of-requires
kind_of-requires c = grind (arith, common_steps)
