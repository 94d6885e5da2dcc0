use Rattle.at_tables.proofs.Prelude.{contents_of, AreSumRows, HaveSums}
use Rattle.at_tables.proofs.asking.rows_of.Given as goal

abbrev pub invariant-loop-process : goal.invariant-loop-process
invariant-loop-process l = record {
  rows : AreSumRows l.book (contents_of l.rows.items) l.process;
  asked : HaveSums l.book (contents_of l.files) (contents_of l.rows.items) l.process;
}
