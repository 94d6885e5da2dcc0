use Rattle.std.proofs.Common.{◌≡◌, ◌++◌, map}
use Rattle.at_tables.proofs.Prelude.{range_with_len, account_of, credit, postings_text}
use Rattle.at_tables.proofs.ledger_table.push_opening_credits.Given as goal

abbrev pub invariant-loop-account : goal.invariant-loop-account
invariant-loop-account l = l.out.items
    ≡ l.initial.out.items ++ postings_text l.names (map (λ account. credit account (account_of l.book account).opening) (range_with_len 0 l.account))
