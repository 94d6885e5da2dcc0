use Rattle.std.proofs.Common.{◌≡◌, ◌++◌, map, take}
use Rattle.at_follow.proofs.Prelude.{entry_fault_words, lines_text}
use Rattle.at_follow.proofs.printing.push_faults.Given as goal

abbrev pub invariant-loop-fault : goal.invariant-loop-fault
invariant-loop-fault l =
    l.out.items
    ≡ l.initial.out.items ++ lines_text (map (entry_fault_words l.book l.names) (take l.fault-index l.faults))
