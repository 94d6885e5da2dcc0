use Rattle.std.proofs.Common.{◌≡◌, ◌+◌, ◌-◌, ◌*◌, set}
use Rattle.at_fold.proofs.Prelude.{stepped, RECORD_WORDS, HasCounted}
use Rattle.at_fold.proofs.totals.Totals.catch_up_with.Given as goal

abbrev pub invariant-loop-i : goal.invariant-loop-i
invariant-loop-i l = record {
  counted : HasCounted l.self l.board.book l.seat.knows.seen;
  upto : l.self.upto ≡ set l.initial.self.upto l.p l.i;
  same : l.seat ≡ stepped l.initial.seat (RECORD_WORDS * (l.i - l.start));
}
