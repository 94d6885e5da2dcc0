-- What is known of a process's call while it is in the making.
use Rattle.std.specs.Prelude.{ℕ, ◌+◌, ◌≤◌, ◌==◌, ◌&&◌, Bool, List, [], ◌∷◌, Option, None, Some, is_some, unwrap_or, if◌then◌else◌}
use Rattle.at_pages.specs.Prelude.{Reply, TurnMade}
use Rattle.at_pages.specs.Spans.{begins_record, is_exchange}
use Rattle.at_pages.specs.declared.spans.Making.{Making}
use Rattle.at_pages.specs.declared.spans.Span.{Span}

-- a call of this number that has not begun
abbrev pub not_begun : ℕ → Making
not_begun number = record { number = number; first = None; steps = 0; exchanges = 0; new_records = 0 }

-- the call with one more turn
abbrev pub with_turn : Making → TurnMade → ℕ → Making
with_turn o t m = record {
  number = o.number;
  first = Some (unwrap_or o.first m);
  steps = o.steps + (if is_some t.step then 1 else 0);
  exchanges = o.exchanges + (if is_exchange t.step then 1 else 0);
  new_records = o.new_records + (if begins_record t.process t.step then 1 else 0);
}

-- the call of the process that its last turn ended
abbrev pub ended : Making → ℕ → ℕ → Option Reply → Span
ended o p last reply =
    record { process = p; number = o.number; first = unwrap_or o.first last; last = last; steps = o.steps; exchanges = o.exchanges; new_records = o.new_records; reply = reply }

-- whether a turn answers a call of the process
abbrev pub is_answer : ℕ → TurnMade → Bool
is_answer p t = (t.process == p) && is_some t.reply

-- the call that a turn ends, if it does
abbrev pub ended_by : Making → TurnMade → ℕ → ℕ → List Span
ended_by o t p m = if is_answer p t then ended (with_turn o t m) p m t.reply ∷ [] else []

-- what is known after the turn: of the next call where it ended one, and of the same one where it was another process's
abbrev pub after_turn : Making → TurnMade → ℕ → ℕ → Making
after_turn o t p m = if t.process == p then (if is_some t.reply then not_begun (o.number + 1) else with_turn o t m) else o

-- no more than so many turns are counted
pub record IsFew (o : Making) (turns : ℕ) : Type 0 where
  pub number : o.number ≤ turns
  pub steps : o.steps ≤ turns
  pub exchanges : o.exchanges ≤ turns
  pub new_records : o.new_records ≤ turns
