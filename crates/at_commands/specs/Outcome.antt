-- What a command finds, and what it leaves.
use Rattle.std.specs.Prelude.{ℕ, Bool, List, Option}
use Rattle.at_commands.specs.Prelude.{ClosedTerms, Status}
use Rattle.at_commands.specs.Loading.{Files}

-- whether the shelf tells its files, these, and its faults before and after
pub record Found : Type 0 where
  pub tells : Bool
  pub files : Files
  pub faults : ℕ
  pub faults_now : ℕ

-- whether the output tells what it takes, this before and after, its faults before and after, the closed ledger that is kept, and the
-- answer
pub record Outcome : Type 0 where
  pub tells : Bool
  pub before : List ℕ
  pub after : List ℕ
  pub faults : ℕ
  pub faults_now : ℕ
  pub kept : Option ClosedTerms
  pub answer : Status

-- what a shelf is found as before and after, by what it tells, its files and its faults
abbrev pub found : {S : Type 0} → (S → Bool) → (S → Files) → (S → ℕ) → S → S → Found
found tells file faults before after = record { tells = tells before; files = file before; faults = faults before; faults_now = faults after }

-- what an output is left as, by what it tells, what it has taken and its faults
abbrev pub outcome : {S : Type 0} → (S → Bool) → (S → List ℕ) → (S → ℕ) → S → S → Option ClosedTerms → Status → Outcome
outcome tells taken faults before after kept answer = record {
  tells = tells before;
  before = taken before;
  after = taken after;
  faults = faults before;
  faults_now = faults after;
  kept = kept;
  answer = answer;
}
