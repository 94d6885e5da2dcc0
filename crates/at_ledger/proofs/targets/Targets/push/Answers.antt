use Rattle.std.proofs.Common.{◌<◌, ◌++◌, [], ◌∷◌, ◌∙◌, ap, length, arith}
use Rattle.at_ledger.proofs.TargetLists.{length-zip_cut, zip_cut-push}
use Rattle.at_ledger.proofs.targets.Targets.push.Goals as goal

room : (c : goal.After-self-1) → c.self.inside.count < 4
room c =
    let own = c.self.inside in
    let counted = length-zip_cut own.count own.accounts own.amounts (omega arith) (omega arith) in
    omega (arith, ap length c.self.view_is)

pub bounds-self-inside-i : goal.bounds-self-inside-i
bounds-self-inside-i c =
    let own = c.self.inside in
    let counted = length-zip_cut own.count own.accounts own.amounts (omega arith) (omega arith) in
    omega (arith, ap length c.self.view_is)

pub bounds-self-inside-i-2 : goal.bounds-self-inside-i-2
bounds-self-inside-i-2 c =
    let own = c.self.inside in
    let counted = length-zip_cut own.count own.accounts own.amounts (omega arith) (omega arith) in
    omega (arith, ap length c.self.view_is)

pub invariant_of-self : goal.invariant_of-self
invariant_of-self c =
    let left = room c in
    (omega arith, omega arith)

pub returns : goal.returns
returns c =
    let own = c.self.inside in
    let left = room c in
    zip_cut-push own.count own.accounts own.amounts c.args.to c.args.amount (omega arith) (omega arith)
    ∙ ap (λ l. l ++ (c.args.to, c.args.amount) ∷ []) c.self.view_is
