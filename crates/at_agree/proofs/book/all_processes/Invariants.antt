use Rattle.std.proofs.Common.{◌≡◌}
use Rattle.at_agree.proofs.Prelude.{range_with_len}
use Rattle.at_agree.proofs.book.all_processes.Given as goal

abbrev pub invariant-loop-process : goal.invariant-loop-process
invariant-loop-process l = l.owners.items ≡ range_with_len 0 l.process
