use Rattle.std.proofs.Common.{◌≡◌, length, arith, rules}
use Rattle.at_ledger.proofs.Prelude.{common_steps, terms_with}
use Rattle.at_ledger.proofs.Books.{IsSummed-with_account}
use Rattle.at_ledger.proofs.builder.BookBuilder.checked.Goals as goal

pub returns-clause-sums : goal.returns-clause-sums
returns-clause-sums c =
    let position : c.len-position.result ≡ length c.self.inside.accounts.items = search rules in
    let s = rw c.in_ok-owners.ensures.ok at c.in_ok-sums.ensures in
    IsSummed-with_account c.args.self.now (terms_with c.args.opening c.args.owners.now) _ _ c.is_full.ensures.checked
    (grind arith) (rw (← c.self.view_is, ← position) c.in_ok-owners.ensures.good) s.good s.rounds s.total

pub returns-in_err-sums-clause-bad : goal.returns-in_err-sums-clause-bad
returns-in_err-sums-clause-bad c = grind (arith, common_steps)

pub sums_with-requires : goal.sums_with-requires
sums_with-requires c = grind (arith, common_steps)

pub returns-clause-good : goal.returns-clause-good
returns-clause-good c = grind (arith, common_steps)

pub returns-clause-ok : goal.returns-clause-ok
returns-clause-ok c = grind (arith, common_steps)

pub overflow_cast-position : goal.overflow_cast-position
overflow_cast-position c = grind (arith, common_steps)
