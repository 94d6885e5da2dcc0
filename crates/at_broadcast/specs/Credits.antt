-- What the validated messages of one sender brought to one account.
use Rattle.std.specs.Prelude.{◌≡◌, ℕ, ◌*◌, ◌^◌, ◌<◌, ◌≤◌, List, length, take, sum_by, nat_le, slice_index_or, if◌then◌else◌}
use Rattle.at_broadcast.specs.Prelude.{IsNonDecreasingBy}
use Rattle.at_broadcast.specs.declared.credits.Credit.{Credit}

-- the credits in the order of their numbers, and for how many more there is room
pub record CreditList : Type 0 where
  pub list : List Credit
  pub room : ℕ

-- what they brought together
abbrev pub credits_sum : List Credit → ℕ
credits_sum list = sum_by (λ c. c.amount) list

-- what those of this number and above brought
abbrev pub amount_since : ℕ → List Credit → ℕ
amount_since number list = sum_by (λ c. if nat_le number c.number then c.amount else 0) list

-- one more credit after these
abbrev pub credit_after : List Credit → ℕ → ℕ → Credit
credit_after list number amount = record { number = number; amount = amount; before = credits_sum list }

-- their numbers don't fall, and each knows the sum of those before it
pub record AreCredits (list : List Credit) (total : ℕ) : Type 0 where
  pub ordered : IsNonDecreasingBy (λ c. c.number) list
  pub before : (k : ℕ) (d : Credit) → k < length list → (slice_index_or list k d).before ≡ credits_sum (take k list)
  pub summed : total ≡ credits_sum list
  pub small : total ≤ length list * 2 ^ 64
