use Rattle.std.proofs.Common.{ℕ}
use Rattle.at_tables.proofs.Prelude.{Posting, account_of, credit, posting_text}
use Rattle.at_tables.proofs.LedgerTextLaws.{flat_map-map_range_more}
use Rattle.at_tables.proofs.ledger_table.push_opening_credits.Goals as goal

pub loop-account-preserved : goal.loop-account-preserved
loop-account-preserved c =
    let opened : ℕ → Posting = λ account. credit account (account_of c.args.book.now account).opening in
    rw (c.in_ok-push_posting.ensures, c.from.ensures, c.opening.ensures, c.loop-account.invariant)
    (flat_map-map_range_more (posting_text c.args.names.now) opened c.args.out.now.items c.loop-account.account)
