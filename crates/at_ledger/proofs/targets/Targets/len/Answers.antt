use Rattle.std.proofs.Common.{◌∙◌, ap, length, sym, arith}
use Rattle.at_ledger.proofs.TargetLists.{length-zip_cut}
use Rattle.at_ledger.proofs.targets.Targets.len.Goals as goal

pub returns-clause-count : goal.returns-clause-count
returns-clause-count c =
    let own = c.self.inside in
    let counted = length-zip_cut own.count own.accounts own.amounts (omega arith) (omega arith) in
    sym counted ∙ ap length c.self.view_is

pub returns-clause-some : goal.returns-clause-some
returns-clause-some c =
    let own = c.self.inside in
    let counted = length-zip_cut own.count own.accounts own.amounts (omega arith) (omega arith) in
    omega (arith, ap length c.self.view_is)

pub returns-clause-few : goal.returns-clause-few
returns-clause-few c =
    let own = c.self.inside in
    let counted = length-zip_cut own.count own.accounts own.amounts (omega arith) (omega arith) in
    omega (arith, ap length c.self.view_is)
