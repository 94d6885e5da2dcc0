-- The turns that each call took.
use Rattle.std.specs.Prelude.{ℕ, ◌==◌, ◌&&◌, Bool, false, true, List, [], ◌∷◌, ◌++◌, Option, None, Some, count_by, filter, flat_map, is_some, length, map, slice_get, take, unwrap_or, if◌then◌else◌}
use Rattle.at_pages.specs.Prelude.{range_with_len, BoardStep, Exchange, Load, Store, BoardWord, Announced, Cell, Length, Record, Request, is_turn_of, turn_at, answered_by, TurnMade}
use Rattle.at_pages.specs.declared.spans.Span.{Span}

-- whether a turn makes a step, and whether that is an exchange
abbrev pub makes_step : List TurnMade → ℕ → Bool
makes_step turns m = is_some (turn_at turns m).step

abbrev pub is_exchange : Option BoardStep → Bool
is_exchange None = false
is_exchange (Some (Load word)) = false
is_exchange (Some (Store word)) = false
is_exchange (Some (Exchange word)) = true

abbrev pub makes_exchange : List TurnMade → ℕ → Bool
makes_exchange turns m = is_exchange (turn_at turns m).step

-- and whether process p loads the first word of another's record, as in a run its call does of each that it counts anew
abbrev pub is_first_word : ℕ → BoardWord → Bool
is_first_word p (Length q) = false
is_first_word p (Record q i j) = if q == p then false else j == 0
is_first_word p (Announced a slot) = false
is_first_word p (Request a slot i j) = false
is_first_word p (Cell a round) = false

abbrev pub begins_record : ℕ → Option BoardStep → Bool
begins_record p None = false
begins_record p (Some (Load word)) = is_first_word p word
begins_record p (Some (Store word)) = false
begins_record p (Some (Exchange word)) = false

abbrev pub counts_record : List TurnMade → ℕ → Bool
counts_record turns m = begins_record (turn_at turns m).process (turn_at turns m).step

-- whether a turn of the process answers a call
abbrev pub answers : List TurnMade → ℕ → ℕ → Bool
answers turns p m = ((turn_at turns m).process == p) && is_some (turn_at turns m).reply

-- the turns before this one of the call of the process that is in the making then
abbrev pub turns_before : List TurnMade → ℕ → ℕ → List ℕ
turns_before turns p m = filter (is_turn_of turns p (answered_by p (take m turns))) (range_with_len 0 m)

-- the call of the process that this turn answers: its number from 0, its first turn and its last, its steps and exchanges, the records that
-- it counts anew, and its reply
abbrev pub span_at : List TurnMade → ℕ → ℕ → Span
span_at turns p m = record {
  process = p;
  number = answered_by p (take m turns);
  first = unwrap_or (slice_get (turns_before turns p m) 0) m;
  last = m;
  steps = count_by (makes_step turns) (turns_before turns p m ++ m ∷ []);
  exchanges = count_by (makes_exchange turns) (turns_before turns p m ++ m ∷ []);
  new_records = count_by (counts_record turns) (turns_before turns p m ++ m ∷ []);
  reply = (turn_at turns m).reply;
}

-- the calls of a process, by the turns that answer them
abbrev pub spans_of : List TurnMade → ℕ → List Span
spans_of turns p = map (span_at turns p) (filter (answers turns p) (range_with_len 0 (length turns)))

-- the calls of all processes, by process and then in their order
abbrev pub all_spans : List TurnMade → ℕ → List Span
all_spans turns processes = flat_map (spans_of turns) (range_with_len 0 processes)
