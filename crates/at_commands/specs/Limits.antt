-- The limits of the numbers among the words of `make` and of `agree`.
use Rattle.std.specs.Prelude.{ℕ, ◌-◌, ◌^◌, ◌<◌, ◌≤◌, All, List, length}

-- processes whose calls are made
abbrev pub most_made_processes : ℕ
most_made_processes = 8

-- calls that are made for each process
abbrev pub most_made_calls : ℕ
most_made_calls = 1000

-- how many processes there may be, and how many calls of each
pub record MayMake (processes calls : ℕ) : Type 0 where
  pub some_process : 1 ≤ processes
  pub few_processes : processes ≤ most_made_processes
  pub some_call : 1 ≤ calls
  pub few_calls : calls ≤ most_made_calls

-- values that processes agree on one of
abbrev pub least_values : ℕ
least_values = 2

abbrev pub most_values : ℕ
most_values = 8

-- the largest of them
abbrev pub largest_value : ℕ
largest_value = 2 ^ 32 - 1

-- values of which processes may agree on one
pub record MayAgreeOn (values : List ℕ) : Type 0 where
  pub some : least_values ≤ length values
  pub few : length values ≤ most_values
  pub small : All (λ value. value < 2 ^ 32) values
