use Rattle.std.proofs.Common.{◌≡◌, ◌++◌}
use Rattle.at_journal.proofs.Prelude.{flat_map}
use Rattle.at_journal.proofs.by_threads.joined.Given as goal

-- the calls of so many lists are joined
abbrev pub invariant-loop-list : goal.invariant-loop-list
invariant-loop-list l = record {
  next : (goal.iterator-loop-list).can_next l.list-iterator;
  finite : (goal.iterator-loop-list).is_finite l.list-iterator;
  joined : flat_map (λ v. v.items) l.fn.lists.items ≡ l.all.items ++ flat_map (λ v. v.items) l.list-iterator.rest.items;
}
