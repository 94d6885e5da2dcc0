use Rattle.std.proofs.Common.{◌≡◌, ℕ, ◌<◌, get_or, length}
use Rattle.at_stepper.proofs.Prelude.{count_of, CallerTerms}
use Rattle.at_stepper.proofs.run.show_all.Given as goal

-- nothing has changed, and the seats of the processes so far have all records of their processes
abbrev pub invariant-loop-process : goal.invariant-loop-process
invariant-loop-process l = record {
  end : l.process-end ≡ length l.fn.callers;
  callers : l.callers ≡ l.fn.callers;
  overview : l.overview ≡ l.fn.overview;
  own : (p : ℕ) (d : CallerTerms) → p < l.process → count_of p l.fn.overview.seen ≡ count_of p (get_or l.fn.callers p d).seat.knows.seen;
}
