use Rattle.std.proofs.Common.{◌≡◌, ◌++◌, length, map}
use Rattle.at_tables.proofs.Prelude.{btree_set_len, lines_text, AreKnown, groups_in, group_words}
use Rattle.at_tables.proofs.kinds_table.push_groups.Given as goal

abbrev pub invariant-loop-group : goal.invariant-loop-group
invariant-loop-group l = record {
  known : AreKnown (length l.names.processes) l.groups;
  text :
      l.out.items ++ lines_text (map (group_words l.names) (groups_in l.groups))
      ≡ l.initial.out.items ++ lines_text (map (group_words l.names) (groups_in l.initial.groups));
}

abbrev pub decreases-loop-group : goal.decreases-loop-group
decreases-loop-group l = btree_set_len l.groups
