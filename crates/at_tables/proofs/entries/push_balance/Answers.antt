use Rattle.at_tables.proofs.Prelude.{CallOf, assertion, posting_text, title_text}
use Rattle.at_tables.proofs.LedgerTextLaws.{append-balance}
use Rattle.at_tables.proofs.entries.push_balance.Goals as goal

pub returns : goal.returns
returns c =
    let names = c.args.names.now in
    rw (c.in_ok-push_posting.ensures, c.in_ok-push_title.ensures, c.in_ok-push.ensures.items)
    (append-balance c.args.out.now.items (title_text names (CallOf c.args.line.now)) (posting_text names (assertion c.args.account c.args.balance)))
