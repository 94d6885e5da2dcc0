use Rattle.at_tables.proofs.Prelude.{AreTotals}
use Rattle.at_tables.proofs.groups.totals_of.Given as goal

abbrev pub invariant-loop-account : goal.invariant-loop-account
invariant-loop-account l = AreTotals l.book l.counts l.account l.totals
