use Rattle.std.proofs.Common.{◌≡◌, ◌<◌, List, length, ap, ◌∙◌, arith}
use Rattle.at_fold.proofs.Prelude.{get_or_default, AccountSums, TotalSums, no_sums, sums_at}
use Rattle.at_fold.proofs.totals.Totals.move_amounts.Goals as goal

pub debit-requires : goal.debit-requires
debit-requires c =
    let fits = c.requires.amounts c.args.from c.requires.source in
    let all_sums : c.self.inside.accounts.items ≡ c.args.self.now.accounts = ap (λ (t : TotalSums). t.accounts) c.self.view_is in
    let within : c.args.from < length c.self.inside.accounts.items = omega (arith, ap length all_sums, c.requires.source) in
    let account_sums : c.index_mut.result.now ≡ sums_at c.args.self.now.accounts c.args.from =
    c.index_mut.ensures.value
    ∙ (get_or_default c.self.inside.accounts.items c.args.from c.index_mut.result.now no_sums within
    ∙ ap (λ (r : List AccountSums). sums_at r c.args.from) all_sums) in
    omega (arith, fits, ap (λ (r : AccountSums). r.debits) account_sums, c.sum.ensures.small)
