-- What a call may have taken so far, as numbers: of three processes, account 0 has all as owners and account 1 has one. Whoever changes
-- what bounds a call at a turn changes these too.
use Rattle.std.specs.Prelude.{ℕ, ◌+◌, ◌*◌, ◌<◌, ◌≤◌, List}
use Rattle.at_calling.specs.Prelude.{Knowledge, Read, Transfer, three_processes, PassTerms}
use Rattle.at_calling.specs.Calling.{IsCallWithin}
use Rattle.at_calling.specs.Reading.{counted_so_far, newly_seen}

module _ (before : PassTerms) (after : Knowledge) (counted : List ℕ) (steps exchanges : ℕ) where
  pub few-read-so_far : (account : ℕ) → IsCallWithin three_processes before (Read account) after counted steps exchanges
      → steps ≤ 15 + 7 * newly_seen before.knows after before.counted
  few-read-so_far account within = within.few

  pub counting-read : (account : ℕ) → IsCallWithin three_processes before (Read account) after counted steps exchanges
      → steps < 15 + 7 * (counted_so_far before.knows after before.counted counted + 1)
  counting-read account within = within.counting

  pub counting-alone : (to amount : ℕ) → IsCallWithin three_processes before (Transfer 1 to amount) after counted steps exchanges
      → steps < 26 + 7 * (counted_so_far before.knows after before.counted counted + 1)
  counting-alone to amount within = within.counting

  pub counting-shared : (to amount : ℕ) → IsCallWithin three_processes before (Transfer 0 to amount) after counted steps exchanges
      → steps < 136 + 7 * (counted_so_far before.knows after before.counted counted + 1)
  counting-shared to amount within = within.counting

  pub few_decided-so_far : (to amount : ℕ) → IsCallWithin three_processes before (Transfer 0 to amount) after counted steps exchanges
      → exchanges ≤ 3
  few_decided-so_far to amount within = within.few_decided
