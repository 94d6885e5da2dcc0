use Rattle.std.proofs.Common.{arith}
use Rattle.at_ledger.proofs.Prelude.{common_steps}
use Rattle.at_ledger.proofs.account.Account.copy.Goals as goal

pub unwrap-requires : goal.unwrap-requires
unwrap-requires c = grind (arith, common_steps)
