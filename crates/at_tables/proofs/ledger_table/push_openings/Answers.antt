use Rattle.at_tables.proofs.LedgerTextLaws.{openings-parts}
use Rattle.at_tables.proofs.ledger_table.push_openings.Goals as goal

pub returns : goal.returns
returns c =
    openings-parts c.args.out.now.items c.extend_from_slice.new.self.items c.push_opening_credits.new.out.items c.extend_from_slice-2.new.self.items c.args.book.now
    c.args.names.now c.in_ok-extend_from_slice.ensures.items c.in_ok-push_opening_credits.ensures c.in_ok-extend_from_slice-2.ensures.items
