use Rattle.std.proofs.Common.{◌≡◌, length}
use Rattle.at_machines.proofs.Prelude.{RECORD_WORDS}
use Rattle.at_machines.proofs.LoadingLaws.{AreRecordWords}
use Rattle.at_machines.proofs.loading_view.LoadingView.view.Given as goal

-- so many counts are those of the words
abbrev pub invariant-loop-q : goal.invariant-loop-q
invariant-loop-q l = record {
  sized : length l.view ≡ l.self.knows.book.processes;
  are : AreRecordWords l.self.knows l.self.process l.self.number RECORD_WORDS l.view l.q;
}
