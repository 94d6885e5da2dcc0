-- What writing a text comes to.
use Rattle.std.specs.Prelude.{◌≡◌, ℕ, ◌⊎◌, Bool, true, List, ◌++◌, Result, Ok, Err}
use Rattle.at_commands.specs.Prelude.{Rose, TakesPrefix, Status, Done, WriteFault}
use Rattle.at_commands.specs.Outcome.{Outcome}

-- the sink has taken the text and counted no fault, or it has counted one and taken a prefix
pub record Wrote (tells : Bool) (text before after : List ℕ) (faults faults_now : ℕ) (answer : Status) : Type 0 where
  pub done : answer ≡ Done → tells ≡ true → after ≡ before ++ text
  pub kept : answer ≡ Done → faults_now ≡ faults
  pub fault : answer ≡ WriteFault → Rose faults faults_now
  pub prefix : answer ≡ WriteFault → tells ≡ true → TakesPrefix before after text
  pub answers : (answer ≡ Done) ⊎ (answer ≡ WriteFault)

-- how a command ends that has made this, whose text is given so: the text is written, or the refusal is answered
abbrev pub Ends : {A : Type 0} → (A → List ℕ) → Result A Status → Outcome → Type 0
Ends text (Ok a) o = Wrote o.tells (text a) o.before o.after o.faults o.faults_now o.answer
Ends text (Err refusal) o = o.answer ≡ refusal
