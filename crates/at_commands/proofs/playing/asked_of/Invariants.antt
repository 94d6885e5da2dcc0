use Rattle.std.proofs.Common.{◌≡◌, ◌++◌}
use Rattle.at_commands.proofs.Prelude.{contents_of}
use Rattle.at_commands.proofs.JobsAsked.{calls_asked, passes_asked}
use Rattle.at_commands.proofs.playing.asked_of.Given as goal

-- so many passes have the calls of their files
abbrev pub invariant-loop-calls : goal.invariant-loop-calls
invariant-loop-calls l = record {
  next : (goal.iterator-loop-calls).can_next l.calls-iterator;
  finite : (goal.iterator-loop-calls).is_finite l.calls-iterator;
  passes : l.fn.passes.items ≡ passes_asked l.asked.items ++ l.others.rest.items;
  files : contents_of l.fn.files.items ≡ calls_asked l.asked.items ++ contents_of l.calls-iterator.rest.items;
}
