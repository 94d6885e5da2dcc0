use Rattle.std.proofs.Common.{◌≡◌, ◌++◌}
use Rattle.at_commands.proofs.JobsAsked.{made_of}
use Rattle.at_commands.proofs.playing.all_made.Given as goal

-- so many of them were made
abbrev pub invariant-loop-one : goal.invariant-loop-one
invariant-loop-one l = record {
  next : (goal.iterator-loop-one).can_next l.one-iterator;
  finite : (goal.iterator-loop-one).is_finite l.one-iterator;
  made : l.fn.made.items ≡ made_of l.jobs.items ++ l.one-iterator.rest.items;
}
