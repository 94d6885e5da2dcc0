use Rattle.std.proofs.Common.{ℕ}
use Rattle.at_tables.proofs.Prelude.{Posting, assertion, balance_of, posting_text}
use Rattle.at_tables.proofs.LedgerTextLaws.{flat_map-map_range_more}
use Rattle.at_tables.proofs.ledger_table.push_assertions.Goals as goal

pub loop-account-preserved : goal.loop-account-preserved
loop-account-preserved c =
    let asserted : ℕ → Posting = λ account. assertion account (balance_of c.args.state.now account) in
    rw (c.in_ok-push_posting.ensures, c.balance-balance.ensures.balance, c.loop-account.invariant)
    (flat_map-map_range_more (posting_text c.args.names.now) asserted c.args.out.now.items c.loop-account.account)
