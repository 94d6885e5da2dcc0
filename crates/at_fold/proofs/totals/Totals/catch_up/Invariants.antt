use Rattle.std.proofs.Common.{◌≡◌, ◌+◌, ◌-◌, ◌*◌, ◌≤◌}
use Rattle.at_fold.proofs.Prelude.{stepped, sum, RECORD_WORDS, IsCatchingUp}
use Rattle.at_fold.proofs.totals.Totals.catch_up.Given as goal

abbrev pub invariant-loop-p : goal.invariant-loop-p
invariant-loop-p l = record {
  catching : IsCatchingUp l.board.book l.seat.knows.seen l.counts l.initial.self.upto l.self l.p;
  same : l.seat ≡ stepped l.initial.seat (RECORD_WORDS * (sum l.self.upto - sum l.initial.self.upto));
  more : sum l.initial.self.upto ≤ sum l.self.upto;
}
