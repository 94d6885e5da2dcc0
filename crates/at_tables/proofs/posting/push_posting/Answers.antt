use Rattle.std.proofs.Common.{codes}
use Rattle.at_tables.proofs.Prelude.{account_name, amount_text, asserted_text}
use Rattle.at_tables.proofs.LedgerTextLaws.{append-six}
use Rattle.at_tables.proofs.posting.push_posting.Goals as goal

pub returns : goal.returns
returns c =
    rw (c.in_ok-push.ensures.items, c.in_ok-push_asserted.ensures, c.in_ok-push_amount.ensures, c.in_ok-extend_from_slice-3.ensures.items, c.in_ok-extend_from_slice-2.ensures.items, c.account.ensures.name, c.in_ok-extend_from_slice.ensures.items)
    (append-six c.args.out.now.items (codes "    account:") (account_name c.args.names.now c.args.account) (codes "  ") (amount_text c.args.amount) (asserted_text c.args.asserted) (codes "\n"))
