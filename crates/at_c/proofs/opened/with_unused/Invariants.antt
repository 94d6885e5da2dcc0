use Rattle.std.proofs.Common.{◌≡◌, ◌++◌, [], length, replicate}
use Rattle.at_c.proofs.Prelude.{vec_capacity, contents_of}
use Rattle.at_c.proofs.opened.with_unused.Given as goal

-- the passes that were put behind the others so far, each with no receipts
abbrev pub invariant-loop-pass : goal.invariant-loop-pass
invariant-loop-pass l = record {
  next : (goal.iterator-loop-pass).can_next l.pass-iterator;
  finite : (goal.iterator-loop-pass).is_finite l.pass-iterator;
  passes : l.passes.items ≡ l.fn.passes.items ++ l.yielded;
  receipts : contents_of l.receipts.items ≡ contents_of l.fn.receipts.items ++ replicate (length l.yielded) [];
  passes_room : vec_capacity l.passes ≡ vec_capacity l.fn.passes;
  receipts_room : vec_capacity l.receipts ≡ vec_capacity l.fn.receipts;
  rest : l.fn.unused.items ≡ l.yielded ++ l.pass-iterator.rest.items;
}
