use Rattle.at_tables.proofs.LedgerTextLaws.{balances-parts}
use Rattle.at_tables.proofs.ledger_table.push_balances.Goals as goal

pub returns : goal.returns
returns c =
    balances-parts c.args.out.now.items c.extend_from_slice.new.self.items c.push_assertions.new.out.items c.args.state.now
    c.args.names.now c.in_ok-extend_from_slice.ensures.items c.in_ok-push_assertions.ensures
