-- What a node tells of what it has validated.
use Rattle.std.specs.Prelude.{◌≡◌, ℕ, ◌<◌, List, length, pos, ◌≤ℤ◌, slice_index}
use Rattle.at_logs.specs.Prelude.{Covers, IsValid, Message, NodeState, Reached, balance_at, one_more_of}
use Rattle.at_logs.specs.Reading.{ReadingState}
use Rattle.at_logs.specs.declared.node.Told.{Told}

-- the message is a validated one that wasn't told, and at what was told it is valid: all that it rests on was told before it
pub record IsUntold (s : ReadingState) (told : Told) : Type 0 where
  pub message : Message
  pub next : IsValid s.node.book s.node.messages s.told told.log message
  pub validated : slice_index s.told told.log < slice_index s.node.validated told.log
  pub number : told.number ≡ slice_index s.told told.log
  pub source : told.from ≡ message.from
  pub targets : told.targets ≡ message.targets
  pub reference : told.reference ≡ message.reference

-- no lower log has one
abbrev pub IsFirstUntold : ReadingState → Told → Type 0
IsFirstUntold s told = (log : ℕ) (m : Message) → log < told.log → ¬ IsValid s.node.book s.node.messages s.told log m

-- then it is told
pub record TellsNext (s t : ReadingState) (told : Told) : Type 0 where
  pub untold : IsUntold s told
  pub left : t ≡ record s { told = one_more_of s.told told.log }

-- what was told is validated, and is a legal run: it is reached by raising, and no balance is below zero there
pub record TellsLegally (s : ReadingState) : Type 0 where
  pub reached : ∥ Reached s.node.book s.node.messages s.told ∥₁
  pub validated : Covers s.node.validated s.told
  pub solvent : (account : ℕ) → account < length s.node.book.accounts → pos 0 ≤ℤ balance_at s.node.book s.node.messages s.told account

-- the next message of a log at some counts is one of the first so many, and is valid there
pub record IsNextWithin (n : NodeState) (counts told : List ℕ) (log : ℕ) : Type 0 where
  pub message : Message
  pub next : IsValid n.book n.messages counts log message
  pub within : slice_index counts log < slice_index told log
