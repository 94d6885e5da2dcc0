use Rattle.std.proofs.Common.{◌≡◌, ◌++◌, map}
use Rattle.at_follow.proofs.Prelude.{lines_text, log_line, range_with_len}
use Rattle.at_follow.proofs.printing.push_logs.Given as goal

abbrev pub invariant-loop-log : goal.invariant-loop-log
invariant-loop-log l =
    l.out.items
    ≡ l.initial.out.items ++ lines_text (map (log_line l.book l.names l.node) (range_with_len 0 l.log))
