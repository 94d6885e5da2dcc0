use Rattle.std.proofs.Common.{◌≡◌, take}
use Rattle.at_follow.proofs.Prelude.{contents_of}
use Rattle.at_follow.proofs.log_words.process_words.Given as goal

abbrev pub invariant-loop-process : goal.invariant-loop-process
invariant-loop-process l = contents_of l.words.items ≡ take l.process l.names.processes
