use Rattle.std.proofs.Common.{◌≡◌, ◌++◌, map, Ok}
use Rattle.at_journal.proofs.by_threads.all_done.Given as goal

-- so many of them were made
abbrev pub invariant-loop-one : goal.invariant-loop-one
invariant-loop-one g l = record {
  next : (goal.iterator-loop-one g).can_next l.one-iterator;
  finite : (goal.iterator-loop-one g).is_finite l.one-iterator;
  made : l.fn.made.items ≡ map Ok l.lists.items ++ l.one-iterator.rest.items;
}
