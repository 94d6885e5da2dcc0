-- The balance of an account after a prefix, as sums.
use Rattle.std.specs.Prelude.{ℕ, ◌+◌, ◌-◌, ◌≤◌, ◌==◌, ◌&&◌, List, sum_by, if◌then◌else◌}
use Rattle.at_history.specs.Prelude.{BookTerms, account_of, TargetPair, amount_of}
use Rattle.at_history.specs.Entries.{is_done, source_of, targets_of}
use Rattle.at_history.specs.Rounds.{firsts}
use Rattle.at_history.specs.declared.publication.Entry.{Entry}
use Rattle.at_history.specs.declared.publication.Publication.{Publication}

-- the amounts for an account among the targets
abbrev pub amount_for : ℕ → List TargetPair → ℕ
amount_for a targets = sum_by (λ t. if t.0 == a then t.1 else 0) targets

-- what a record adds to an account
abbrev pub credit_of : ℕ → Entry → ℕ
credit_of a entry = if is_done entry then amount_for a (targets_of entry) else 0

-- what a record takes from an account
abbrev pub debit_of : ℕ → Entry → ℕ
debit_of a entry = if is_done entry && (source_of entry == a) then amount_of (targets_of entry) else 0

-- all that the list adds to an account, each round counted once
abbrev pub credits : ℕ → List Publication → ℕ
credits a list = sum_by (λ x. credit_of a x.entry) (firsts list)

-- all that it takes
abbrev pub debits : ℕ → List Publication → ℕ
debits a list = sum_by (λ x. debit_of a x.entry) (firsts list)

-- the opening with what was added, less what was taken. Each round is counted once, and only where its decision is a success
abbrev pub balance_after : BookTerms → List Publication → ℕ → ℕ
balance_after b list a = (account_of b a).opening + credits a list - debits a list

-- the balance is at least the amount: all that was taken and the amount are in what there was
abbrev pub IsCovered : BookTerms → List Publication → ℕ → ℕ → Type 0
IsCovered b list a amount = debits a list + amount ≤ (account_of b a).opening + credits a list
