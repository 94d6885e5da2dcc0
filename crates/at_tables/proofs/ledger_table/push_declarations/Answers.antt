use Rattle.at_tables.proofs.LedgerTextLaws.{declarations_text-parts}
use Rattle.at_tables.proofs.ledger_table.push_declarations.Goals as goal

pub returns : goal.returns
returns c =
    declarations_text-parts c.args.out.now.items c.push_accounts.new.out.items c.extend_from_slice.new.self.items c.args.book.now
    c.args.names.now c.in_ok-push_accounts.ensures c.in_ok-extend_from_slice.ensures.items
