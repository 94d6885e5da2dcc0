use Rattle.std.proofs.Common.{◌≡◌, ◌≤◌, ◌++◌, length}
use Rattle.at_workers.proofs.Prelude.{vec_capacity, calls_of}
use Rattle.at_workers.proofs.job.lay_out.Given as goal

-- the calls so far stand where their receipts are to be, and there is room for the others
abbrev pub invariant-loop-call : goal.invariant-loop-call
invariant-loop-call l = record {
  next : (goal.iterator-loop-call).can_next l.call-iterator;
  finite : (goal.iterator-loop-call).is_finite l.call-iterator;
  calls : l.fn.calls.items ≡ calls_of l.receipts.items ++ l.call-iterator.rest.items;
  room : length l.fn.calls.items ≤ vec_capacity l.receipts;
}
