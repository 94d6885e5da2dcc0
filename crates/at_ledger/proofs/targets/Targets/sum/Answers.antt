use Rattle.std.proofs.Common.{◌≡◌, get_or, arith}
use Rattle.at_ledger.proofs.Prelude.{common_steps}
use Rattle.at_ledger.proofs.TargetLists.{amount_of-zip_more}
use Rattle.at_ledger.proofs.targets.Targets.sum.Goals as goal

pub loop-i-preserved : goal.loop-i-preserved
loop-i-preserved c =
    let own = c.self.inside in
    let more = amount_of-zip_more c.loop-i.i own.accounts own.amounts (omega arith) (omega arith) in
    let read : c.from-sum.result ≡ get_or own.amounts c.loop-i.i 0 = c.from-sum.ensures in
    (omega (arith, more, read), grind (arith, common_steps))
