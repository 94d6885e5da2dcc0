use Rattle.std.proofs.Common.{◌≡◌, length}
use Rattle.at_machines.proofs.Prelude.{RECORD_WORDS}
use Rattle.at_machines.proofs.LoadingLaws.{AreRecordWords}
use Rattle.at_machines.proofs.loading_entry.LoadingEntry.entry.Given as goal

-- so many values are those of the words
abbrev pub invariant-loop-j : goal.invariant-loop-j
invariant-loop-j l = record {
  sized : length l.values ≡ RECORD_WORDS;
  are : AreRecordWords l.self.knows l.self.process l.self.number 0 l.values l.j;
}
