use Rattle.std.proofs.Common.{◌<◌, ◌^◌, subst, arith}
use Rattle.at_logs.proofs.Prelude.{get_or_default}
use Rattle.at_logs.proofs.saving.put_amounts.Goals as goal

pub returns-clause-fits : goal.returns-clause-fits
returns-clause-fits c k d within = subst (λ n. n < 2 ^ 64) (get_or_default c.args.amounts.now k 0 d within) (omega (arith, c.type_inv.amounts k))
