use Rattle.std.proofs.Common.{◌≡◌, ◌++◌, length}
use Rattle.at_object.proofs.Laws.NewPasses.{AreNewSoFar}
use Rattle.at_object.proofs.ledger.passes_for.Given as goal

-- a new pass is made for each seat so far
abbrev pub invariant-loop-seat : goal.invariant-loop-seat
invariant-loop-seat l = record {
  next : (goal.iterator-loop-seat).can_next l.seat-iterator;
  finite : (goal.iterator-loop-seat).is_finite l.seat-iterator;
  seats : l.fn.seats.items ≡ l.yielded ++ l.seat-iterator.rest.items;
  count : length l.passes.items ≡ length l.yielded;
  made : AreNewSoFar l.book l.fn.seats.items l.passes.items;
}
