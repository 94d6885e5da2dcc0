use Rattle.std.proofs.Common.{◌<◌, length, ap, ◌∙◌, arith}
use Rattle.at_fold.proofs.Prelude.{AccountSums, TotalSums}
use Rattle.at_fold.proofs.Laws.CountedPrefix.{AreSumsOf-cut, sums_read}
use Rattle.at_fold.proofs.totals.Totals.rounds.Goals as goal

pub returns-clause-cut : goal.returns-clause-cut
returns-clause-cut c = λ b seen account cut.
    let sums = (AreSumsOf-cut c.args.self.now b seen account.counted cut).accounts c.args.account account.account_in in
    let within : c.args.account < length c.args.self.now.accounts = omega (arith, account.counted.sums.sized, account.account_in) in
    let account_sums = sums_read c.self.inside.accounts.items c.args.self.now.accounts c.args.account c.index.result.now c.index.ensures
    (ap (λ (t : TotalSums). t.accounts) c.self.view_is) within in
    c.rounds.ensures ∙ (ap (λ (r : AccountSums). r.rounds) account_sums ∙ sums.rounds)
