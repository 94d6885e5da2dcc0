-- The pay-outs of a list of publications, as calls of the ledger.
use Rattle.std.specs.Prelude.{◌≡◌, ℕ, ◌<◌, ◌≤◌, ◌^◌, List, length, replicate, slice_index, take, Option, Some, None, if◌then◌else◌}
use Rattle.at_history.specs.Prelude.{filter_map, Decision, BookTerms, account_of, run, balance_of, Call, Pay, Done}
use Rattle.at_history.specs.Balances.{IsCovered, balance_after}
use Rattle.at_history.specs.Rounds.{firsts}
use Rattle.at_history.specs.declared.publication.Entry.{Entry}
use Rattle.at_history.specs.declared.publication.Entry.TheVariants.{Own, Round}
use Rattle.at_history.specs.declared.publication.Publication.{Publication}

-- the process whose request a round decides: the owner at the decided slot
abbrev pub decided_owner : BookTerms → ℕ → Decision → ℕ
decided_owner b account decision = slice_index (account_of b account).owners decision.slot

-- the call of a record: an own record is its process's, and a success of a round its owner's
abbrev pub move_of : BookTerms → ℕ → Entry → Option (ℕ × Call)
move_of b process (Own from targets) = Some (process, Pay from targets)
move_of b process (Round account round decision targets) =
    if decision.ok then Some (decided_owner b account decision, Pay account targets) else None

-- the calls of a list, each round counted once
abbrev pub moves : BookTerms → List Publication → List (ℕ × Call)
moves b list = filter_map (λ x. move_of b x.process x.entry) (firsts list)

-- the list is a run of the ledger: each of its moves is done, the run ends with the balances of the list, and no
-- account is overdrawn
pub record IsRun (b : BookTerms) (list : List Publication) : Type 0 where
  pub done : (run b (moves b list)).replies ≡ replicate (length (moves b list)) Done
  pub balances : (a : ℕ) → a < length b.accounts → balance_of (run b (moves b list)).last a ≡ balance_after b list a
  pub covered : (a : ℕ) → a < length b.accounts → IsCovered b list a 0
  pub fits : (a : ℕ) → a < length b.accounts → balance_after b list a < 2 ^ 64

-- each prefix is a run of the sequential ledger in which all its moves are done, with its balances
abbrev pub AreRuns : BookTerms → List Publication → Type 0
AreRuns b list = (m : ℕ) → m ≤ length list → IsRun b (take m list)
