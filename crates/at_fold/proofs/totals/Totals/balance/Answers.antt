use Rattle.std.proofs.Common.{◌<◌, List, length, ap, subst, sym, ◌∙◌, arith}
use Rattle.at_fold.proofs.Prelude.{BookTerms, Publication, balance_after, prefix_of, CountsAccount, CountsCut, TotalSums}
use Rattle.at_fold.proofs.Laws.CountedPrefix.{IsBalanced, IsBalanced-cut, sums_read}
use Rattle.at_fold.proofs.totals.Totals.balance.Goals.{After-index}
use Rattle.at_fold.proofs.totals.Totals.balance.Goals as goal

-- the sums that were read give the balance
balanced : (c : After-index) (b : BookTerms) (seen : List Publication) → CountsAccount c.args.self.now b seen c.args.account → CountsCut c.args.self.now b seen
    → IsBalanced c.index.result.now (balance_after b (prefix_of c.args.self.now.upto seen) c.args.account)
balanced c b seen account cut =
    let t : TotalSums = c.args.self.now in
    let within : c.args.account < length t.accounts = omega (arith, account.counted.sums.sized, account.account_in) in
    let account_sums = sums_read c.self.inside.accounts.items t.accounts c.args.account c.index.result.now c.index.ensures (ap (λ (t : TotalSums). t.accounts) c.self.view_is) within in
    subst (λ r. IsBalanced r (balance_after b (prefix_of t.upto seen) c.args.account)) (sym account_sums) (IsBalanced-cut t b seen c.args.account account cut)

pub balance-requires-clause-room : goal.balance-requires-clause-room
balance-requires-clause-room c = (balanced c c.requires.0 c.requires.1 c.requires.2 c.requires.3).room

pub balance-requires-clause-covered : goal.balance-requires-clause-covered
balance-requires-clause-covered c = (balanced c c.requires.0 c.requires.1 c.requires.2 c.requires.3).covered

pub balance-requires-clause-fits : goal.balance-requires-clause-fits
balance-requires-clause-fits c = (balanced c c.requires.0 c.requires.1 c.requires.2 c.requires.3).fits

pub returns : goal.returns
returns c = λ b seen account cut. c.balance.ensures ∙ (balanced (goal.at.returns c).After-index b seen account cut).is
