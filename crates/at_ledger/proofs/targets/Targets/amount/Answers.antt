use Rattle.std.proofs.Common.{◌∙◌, ap, length, sym, arith}
use Rattle.at_ledger.proofs.Prelude.{target_at}
use Rattle.at_ledger.proofs.TargetLists.{length-zip_cut, target_at-zip_cut}
use Rattle.at_ledger.proofs.targets.Targets.amount.Goals as goal

pub bounds-self-inside-i : goal.bounds-self-inside-i
bounds-self-inside-i c =
    let own = c.self.inside in
    let counted = length-zip_cut own.count own.accounts own.amounts (omega arith) (omega arith) in
    omega (arith, ap length c.self.view_is)

pub returns : goal.returns
returns c =
    let own = c.self.inside in
    let counted = length-zip_cut own.count own.accounts own.amounts (omega arith) (omega arith) in
    let read = target_at-zip_cut own.count own.accounts own.amounts c.args.i (omega (arith, ap length c.self.view_is)) (omega arith) (omega arith) in
    ap (λ t. t.1) (sym read) ∙ ap (λ l. (target_at l c.args.i).1) c.self.view_is
