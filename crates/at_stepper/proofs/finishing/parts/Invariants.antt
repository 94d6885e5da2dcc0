use Rattle.std.proofs.Common.{◌≡◌, ◌+◌, ◌≤◌, ◌++◌}
use Rattle.at_stepper.proofs.Prelude.{vec_capacity, vec_len, contents_of, AreSplit}
use Rattle.at_stepper.proofs.finishing.parts.Given as goal

-- the callers so far are split. There is room for the others' passes and receipts
abbrev pub invariant-loop-caller : goal.invariant-loop-caller
invariant-loop-caller l = record {
  next : (goal.iterator-loop-caller).can_next l.caller-iterator;
  finite : (goal.iterator-loop-caller).is_finite l.caller-iterator;
  callers : l.fn.callers.items ≡ l.yielded ++ l.caller-iterator.rest.items;
  split : AreSplit l.yielded l.passes.items (contents_of l.receipts.items);
  room : vec_len l.passes + l.caller-iterator.rest.len ≤ vec_capacity l.passes;
  list_room : vec_len l.receipts + l.caller-iterator.rest.len ≤ vec_capacity l.receipts;
}
