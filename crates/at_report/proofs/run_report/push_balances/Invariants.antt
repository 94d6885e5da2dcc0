use Rattle.std.proofs.Common.{◌≡◌, ◌++◌, map}
use Rattle.at_report.proofs.Prelude.{range_with_len, lines_text, balance_words}
use Rattle.at_report.proofs.run_report.push_balances.Given as goal

abbrev pub invariant-loop-account : goal.invariant-loop-account
invariant-loop-account l =
    l.out.items ≡ l.initial.out.items ++ lines_text (map (balance_words l.names l.state) (range_with_len 0 l.account))
