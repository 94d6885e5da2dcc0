use Rattle.std.proofs.Common.{◌<◌, length, sym, ap, subst, ◌∙◌, arith}
use Rattle.at_fold.proofs.Prelude.{prefix_of, IsSettledSo, AccountSums, TotalSums, answer_at, slot_at}
use Rattle.at_fold.proofs.Laws.CountedPrefix.{AreSumsOf-cut, sums_read}
use Rattle.at_fold.proofs.totals.Totals.settled.Goals as goal

pub returns-clause-cut : goal.returns-clause-cut
returns-clause-cut c = λ b seen slot number cut.
    let account = slot.account in
    let sums = (AreSumsOf-cut c.args.self.now b seen account.counted cut).accounts c.args.account account.account_in in
    let within : c.args.account < length c.args.self.now.accounts = omega (arith, account.counted.sums.sized, account.account_in) in
    let account_sums = sums_read c.self.inside.accounts.items c.args.self.now.accounts c.args.account c.index.result.now c.index.ensures
    (ap (λ (t : TotalSums). t.accounts) c.self.view_is) within in
    let answer = c.settled.ensures ∙ ap (λ (r : AccountSums). answer_at (slot_at r c.args.slot) c.args.number) account_sums in
    subst (IsSettledSo (prefix_of c.args.self.now.upto seen) c.args.account c.args.slot c.args.number) (sym answer)
    ((sums.slots c.args.slot slot.slot_in).settled c.args.number number)
