use Rattle.std.proofs.Common.{◌≡◌, take}
use Rattle.at_report.proofs.Prelude.{asked_in, run_from}
use Rattle.at_report.proofs.replaying.replay.Given as goal

abbrev pub invariant-loop-i : goal.invariant-loop-i
invariant-loop-i g l = record {
  last : l.state ≡ (run_from l.initial.state (take l.i (asked_in (g.J.Journal.lines l.journal)))).last;
  book : l.state.book ≡ l.initial.state.book;
}
