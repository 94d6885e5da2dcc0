use Rattle.at_tables.proofs.Prelude.{declaration_text}
use Rattle.at_tables.proofs.LedgerTextLaws.{flat_map-range_more}
use Rattle.at_tables.proofs.ledger_table.push_accounts.Goals as goal

pub loop-account-preserved : goal.loop-account-preserved
loop-account-preserved c =
    rw (c.in_ok-push_declaration.ensures, c.loop-account.invariant)
    (flat_map-range_more (declaration_text c.args.names.now) c.args.out.now.items c.loop-account.account)
