use Rattle.at_tables.proofs.AddingUpLaws.{AddUp-entries_of, AreAsserted-entries_of, MakeBalances-entries_of}
use Rattle.at_tables.proofs.ledger_table.ledger.Goals as goal

pub returns-clause-adds_up : goal.returns-clause-adds_up
returns-clause-adds_up c = AddUp-entries_of c.args.book.now c.args.lines.now

pub returns-clause-asserted : goal.returns-clause-asserted
returns-clause-asserted c = AreAsserted-entries_of c.args.book.now c.args.book.now.processes c.args.lines.now c.requires.lines

pub returns-clause-last : goal.returns-clause-last
returns-clause-last c = MakeBalances-entries_of c.args.book.now c.args.book.now.processes c.args.lines.now c.requires.lines
