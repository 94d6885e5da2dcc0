-- The turns of a schedule.
use Rattle.std.specs.Prelude.{◌≡◌, ℕ, zero, suc, ◌<◌, ◌++◌, ◌==◌, ◌&&◌, List, [], ◌∷◌, count_by, is_some, length, slice_index_or}
use Rattle.at_stepper.specs.Prelude.{range_with_len, Call}
use Rattle.at_stepper.specs.declared.replaying.TurnMade.{TurnMade}

-- how many turns of a process are answered
abbrev pub answered_by : ℕ → List TurnMade → ℕ
answered_by p turns = count_by (λ t. (t.process == p) && is_some t.reply) turns

-- a process is idle after a list of turns where as many of its turns there are answered as it has calls
abbrev pub IsIdleAfter : List (List Call) → List TurnMade → ℕ → Type 0
IsIdleAfter files turns p = answered_by p turns ≡ length (slice_index_or files p [])

-- the turns by a list of processes: one for each entry, without those whose process is idle by then
pub data AreTurnsBy (files : List (List Call)) : List ℕ → List TurnMade → Type 0 where
  none : AreTurnsBy files [] []
  idle : (entries : List ℕ) (turns : List TurnMade) (p : ℕ) → AreTurnsBy files entries turns → IsIdleAfter files turns p
      → AreTurnsBy files (entries ++ p ∷ []) turns
  turn : (entries : List ℕ) (turns : List TurnMade) (t : TurnMade) → AreTurnsBy files entries turns → ¬ IsIdleAfter files turns t.process
      → AreTurnsBy files (entries ++ t.process ∷ []) (turns ++ t ∷ [])

-- processes 0, 1 and so on in turn, so many times
unfoldable pub rounds_of_turns : ℕ → ℕ → List ℕ
rounds_of_turns n zero = []
rounds_of_turns n (suc times) = rounds_of_turns n times ++ range_with_len 0 n

-- the turns of a schedule are those by the schedule, and by the processes in turn, again and again, until all are idle
pub record AreTurnsOf (files : List (List Call)) (schedule : List ℕ) (turns : List TurnMade) : Type 0 where
  pub times : ℕ
  pub made : AreTurnsBy files (schedule ++ rounds_of_turns (length files) times) turns
  pub over : (p : ℕ) → p < length files → IsIdleAfter files turns p
