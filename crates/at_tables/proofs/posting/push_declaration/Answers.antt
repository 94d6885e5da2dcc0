use Rattle.std.proofs.Common.{codes}
use Rattle.at_tables.proofs.Prelude.{account_name}
use Rattle.at_tables.proofs.LedgerTextLaws.{append-three}
use Rattle.at_tables.proofs.posting.push_declaration.Goals as goal

pub returns : goal.returns
returns c =
    rw (c.in_ok-push.ensures.items, c.in_ok-extend_from_slice-2.ensures.items, c.account.ensures.name, c.in_ok-extend_from_slice.ensures.items)
    (append-three c.args.out.now.items (codes "account account:") (account_name c.args.names.now c.args.account) (codes "\n"))
