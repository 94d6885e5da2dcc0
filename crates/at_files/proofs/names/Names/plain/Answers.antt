use Rattle.std.proofs.Common.{arith}
use Rattle.at_files.proofs.Prelude.{common_steps, AreNamesOf, plain_names}
use Rattle.at_files.proofs.NameLaws.{AreNamesOf-plain_names}
use Rattle.at_files.proofs.names.Names.plain.Goals as goal

pub invariant_of-result : goal.invariant_of-result
invariant_of-result c =
    let are : AreNamesOf c.args.book.now (plain_names c.args.book.now) =
    AreNamesOf-plain_names c.args.book.now (omega (arith, c.accounts-accounts.ensures.checked.begun.few_processes)) c.accounts-accounts.ensures.checked.begun.few_accounts in
    rw (c.in-Ok.ensures, c.in-Ok-plain_names.ensures, c.processes.ensures, c.accounts-accounts.ensures.count) are.formed

pub returns-clause-names : goal.returns-clause-names
returns-clause-names c =
    rw (c.in-Ok.ensures, c.in-Ok-plain_names.ensures, c.processes.ensures, c.accounts-accounts.ensures.count)
    (AreNamesOf-plain_names c.args.book.now (omega (arith, c.accounts-accounts.ensures.checked.begun.few_processes)) c.accounts-accounts.ensures.checked.begun.few_accounts)

pub returns-clause-plain : goal.returns-clause-plain
returns-clause-plain c = grind (arith, common_steps)
