use Rattle.std.proofs.Common.{◌≡◌, ℕ, ◌+◌, ◌<◌, ◌≤◌, List, drop, length, get_or, map, take}
use Rattle.at_stepper.proofs.Prelude.{vec_capacity, vec_len, Call, contents_of, CallerTerms, IsBegunCaller}
use Rattle.at_stepper.proofs.beginning.run_of.Given as goal

-- a caller is made of each start and file so far
abbrev pub invariant-loop-calls : goal.invariant-loop-calls
invariant-loop-calls l = record {
  next : (goal.iterator-loop-calls).can_next l.calls-iterator;
  finite : (goal.iterator-loop-calls).is_finite l.calls-iterator;
  starts : l.others.rest.items ≡ drop (length l.callers.items) l.fn.memory.starts.items;
  files : l.calls-iterator.rest.items ≡ drop (length l.callers.items) l.fn.files.items;
  calls : map (λ (caller : CallerTerms). caller.calls) l.callers.items ≡ take (length l.callers.items) (contents_of l.fn.files.items);
  made : (p : ℕ) (file : List Call) (d : CallerTerms) → p < length l.callers.items →
      IsBegunCaller l.fn.memory.ledger p (get_or (contents_of l.fn.files.items) p file) (get_or l.callers.items p d);
  room : vec_len l.callers + l.calls-iterator.rest.len ≤ vec_capacity l.callers;
}
