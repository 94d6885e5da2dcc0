use Rattle.std.proofs.Common.{◌≡◌, ◌≤◌, ◌*◌, sum_by, take}
use Rattle.at_tables.proofs.Prelude.{account_of, contents_of, row_number}
use Rattle.at_tables.proofs.needs_table.asked_of.Given as goal

abbrev pub invariant-loop-slot : goal.invariant-loop-slot
invariant-loop-slot l = record {
  sum : l.asked ≡ sum_by (row_number (contents_of l.rows) l.account) (take l.slot (account_of l.book l.account).owners);
  small : l.asked ≤ 1208925819614629174706176 * l.slot;
}
