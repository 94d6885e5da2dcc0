use Rattle.std.proofs.Common.{◌≡◌}
use Rattle.at_commands.proofs.Prelude.{contents_of, costs_in}
use Rattle.at_commands.proofs.JobsMade.{passes_in}
use Rattle.at_commands.proofs.JobsRun.{receipts_in}
use Rattle.at_commands.proofs.playing.taken_apart.Given as goal

-- the passes and the receipts of the jobs so far
abbrev pub invariant-loop-job : goal.invariant-loop-job
invariant-loop-job l = record {
  next : (goal.iterator-loop-job).can_next l.job-iterator;
  finite : (goal.iterator-loop-job).is_finite l.job-iterator;
  passes : l.passes.items ≡ passes_in l.yielded;
  receipts : contents_of l.receipts.items ≡ receipts_in l.yielded;
  costs : contents_of l.costs.items ≡ costs_in l.yielded;
}
