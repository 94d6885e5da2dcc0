use Rattle.std.proofs.Common.{◌≡◌, ◌++◌, flat_map, length}
use Rattle.at_tables.proofs.Prelude.{btree_set_len, AreKnown, groups_in, agreement_text}
use Rattle.at_tables.proofs.sentence.push_agreements.Given as goal

abbrev pub invariant-loop-group : goal.invariant-loop-group
invariant-loop-group l = record {
  known : AreKnown (length l.names.processes) l.groups;
  text :
      l.out.items ++ flat_map (agreement_text l.names) (groups_in l.groups)
      ≡ l.initial.out.items ++ flat_map (agreement_text l.names) (groups_in l.initial.groups);
}

abbrev pub decreases-loop-group : goal.decreases-loop-group
decreases-loop-group l = btree_set_len l.groups
