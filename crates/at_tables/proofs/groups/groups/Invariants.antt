use Rattle.std.proofs.Common.{◌≡◌, List, length, take}
use Rattle.at_tables.proofs.Prelude.{Call, AreCounts, AreKnown, groups_in, groups_among}
use Rattle.at_tables.proofs.groups.groups.Given as goal

abbrev pub invariant-loop-account : goal.invariant-loop-account
invariant-loop-account l = record {
  groups : (files : List (List Call)) → AreCounts l.book files (length files) l.counts → groups_in l.groups ≡ groups_among l.book files (take l.account l.book.accounts);
  known : AreKnown l.book.processes l.groups;
}
