use Rattle.std.proofs.Common.{◌≡◌, ◌==◌, true, refl, ◌∙◌, arith}
use Rattle.at_files.proofs.Prelude.{common_steps, nat_tests}
use Rattle.at_files.proofs.accounts.numbered_terms.Goals as goal

pub returns-then-id-from-clause-ok : goal.returns-then-id-from-clause-ok
returns-then-id-from-clause-ok c =
    let same : c.in-Some-Some-Some.id ≡ c.args.account = c.if-id-from.true ∙ c.from.ensures in
    let test : (c.args.account == c.args.account) ≡ true = grind (arith, nat_tests) in
    rw (c.in-Some-Some-Some.is-0, c.in-Some-Some-Some.is-1, c.in-Some-Some-Some.is-2, same, test) refl

pub returns-else-id-from-clause-bad : goal.returns-else-id-from-clause-bad
returns-else-id-from-clause-bad c = grind (arith, common_steps)

pub returns-in_default-clause-bad : goal.returns-in_default-clause-bad
returns-in_default-clause-bad c = grind (arith, common_steps)
