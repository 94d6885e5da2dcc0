use Rattle.std.proofs.Common.{◌≡◌, ◌++◌, map}
use Rattle.at_follow.proofs.Prelude.{lines_text, node_account_words, range_with_len}
use Rattle.at_follow.proofs.printing.push_balances.Given as goal

abbrev pub invariant-loop-account : goal.invariant-loop-account
invariant-loop-account l =
    l.out.items
    ≡ l.initial.out.items ++ lines_text (map (node_account_words l.names l.node) (range_with_len 0 l.account))
