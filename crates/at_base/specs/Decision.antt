-- Decisions and their words.
use Rattle.std.specs.Prelude.{◌≡◌, ℕ, ◌+◌, ◌-◌, ◌*◌, ◌/◌, ◌%◌, ◌^◌, ◌<◌, ◌≤◌, ◌⊎◌, if◌then◌else◌}
use Rattle.at_base.specs.declared.decision.Decision.{Decision}

-- the numbers of a decision fit its word
pub record InRange (d : Decision) : Type 0 where
  pub slot : d.slot < 8
  pub number : d.number < 1024
  pub place : d.place < 2 ^ 18

-- one for the decision itself, and then its success, slot, number and place
abbrev pub word_of : Decision → ℕ
word_of d = 1 + (if d.ok then 1 else 0) + 2 * d.slot + 16 * d.number + 2 ^ 18 * d.place

-- no decision has this word: it is 0, or its number or its place is out of range
abbrev pub IsNoDecision : ℕ → Type 0
IsNoDecision w = (w ≡ 0) ⊎ (1024 ≤ (w - 1) / 16 % 2 ^ 14) ⊎ (2 ^ 18 ≤ (w - 1) / 2 ^ 18)
