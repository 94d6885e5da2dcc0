use Rattle.at_tables.proofs.Prelude.{contents_of}
use Rattle.at_tables.proofs.WithinLaws.{AreCostsWithin-HaveCosts}
use Rattle.at_tables.proofs.costs_table.costs_text.Goals as goal

pub returns-clause-within : goal.returns-clause-within
returns-clause-within c =
    AreCostsWithin-HaveCosts c.args.book.now c.args.closing.now.receipts (contents_of c.args.costs.now) c.requires.costs
