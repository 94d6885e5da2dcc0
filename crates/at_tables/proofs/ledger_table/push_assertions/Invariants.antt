use Rattle.std.proofs.Common.{◌≡◌, ◌++◌, map}
use Rattle.at_tables.proofs.Prelude.{range_with_len, assertion, balance_of, postings_text}
use Rattle.at_tables.proofs.ledger_table.push_assertions.Given as goal

abbrev pub invariant-loop-account : goal.invariant-loop-account
invariant-loop-account l = l.out.items
    ≡ l.initial.out.items ++ postings_text l.names (map (λ account. assertion account (balance_of l.state account)) (range_with_len 0 l.account))
