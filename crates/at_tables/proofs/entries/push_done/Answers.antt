use Rattle.std.proofs.Common.{None}
use Rattle.at_tables.proofs.Prelude.{CallOf, Minus, Posts, amount_of, posting_text, postings_text, target_credits, title_text}
use Rattle.at_tables.proofs.LedgerTextLaws.{append-four}
use Rattle.at_tables.proofs.entries.push_done.Goals as goal

pub returns : goal.returns
returns c =
    let names = c.args.names.now in
    let targets = c.args.targets.now in
    rw (c.in_ok-push_credits.ensures, c.in_ok-push_posting.ensures, c.sum.ensures.sum, c.in_ok-push_title.ensures, c.in_ok-push.ensures.items)
    (append-four c.args.out.now.items (title_text names (CallOf c.args.line.now)) (posting_text names (Posts c.args.from (Minus (amount_of targets)) None)) (postings_text names (target_credits targets)))
