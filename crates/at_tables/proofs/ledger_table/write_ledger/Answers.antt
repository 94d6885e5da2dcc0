use Rattle.at_tables.proofs.Prelude.{Enters, declarations_text, first_transaction, last_transaction, last_state}
use Rattle.at_tables.proofs.LedgerTextLaws.{ledger_text-parts}
use Rattle.at_tables.proofs.ledger_table.write_ledger.Goals as goal

pub returns : goal.returns
returns c =
    let b = c.args.book.now in
    let names = c.args.names.now in
    let lines = c.args.lines.now in
    rw (c.in_ok-push_balances.ensures, c.in_ok-push_entries.ensures, c.in_ok-push_openings.ensures, c.in_ok-push_declarations.ensures, c.new-out.ensures.items, c.in_ok-last.ensures.last)
    (ledger_text-parts names (declarations_text b names) (Enters (first_transaction b)) (Enters (last_transaction (last_state b lines))) lines)
