use Rattle.std.proofs.Common.{◌≡◌, ◌++◌, List, length, map}
use Rattle.at_tables.proofs.Prelude.{range_with_len, Call, lines_text, AreCounts, account_words}
use Rattle.at_tables.proofs.kinds_table.push_accounts.Given as goal

abbrev pub invariant-loop-account : goal.invariant-loop-account
invariant-loop-account l =
    (files : List (List Call)) → AreCounts l.book files (length files) l.counts
    → l.out.items ≡ l.initial.out.items ++ lines_text (map (account_words l.book l.names files) (range_with_len 0 l.account))
