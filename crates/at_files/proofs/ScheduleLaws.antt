-- The record of a turn is the turn, written out.
use Rattle.std.proofs.Common.{◌≡◌, ℕ, ◌<◌, ◌≤◌, ◌^◌, Bool, true, false, ◌==◌, nat_lt, List, length, Vec, Option, Some, None, Result, Ok, Err, IfErr, IfOk, if◌then◌else◌, refl, ◌∙◌, subst, arith}
use Rattle.at_files.proofs.Prelude.{Global, eqb-true, lt-ltb, ltb-true, field_at, number_of-decimal, most_scheduled_turns, Fields, number_at, Schedules, fields_of_turn, schedule_of, turn_of, turn_read, ScheduleWhy, TooManyTurns, UnknownProcess, BadRecord, ReadFault, Bad, NoMemory}
use Rattle.at_files.specs.declared.schedule.ScheduleWhy.TheVariants.{Shape}
use Rattle.at_files.proofs.FieldLaws.{field_of-number_at, one_field}
use Rattle.at_files.proofs.SpelledLaws.{AreWritten, IsForm, items_of-map, read-accepts, read-written}

-- a value that a test lets through
ok_where : {T W : Type 0} (b : Bool) (x y : T) (why : W) → (if b then Ok x else Err why) ≡ Ok y → (b ≡ true) × (x ≡ y)
ok_where true x y why h = (refl, cc)
ok_where false x y why h = absurd (cc)

turn_read-written : (processes : ℕ) (fields : Fields) (turn : ℕ) (process : Option ℕ) → length fields ≡ 1 → number_at fields 0 ≡ process
    → turn_read processes process ≡ Ok turn → (fields ≡ fields_of_turn turn) × (turn < processes)
turn_read-written processes fields turn None long e h = absurd (cc)
turn_read-written processes fields turn (Some process) long e h =
    let test = ok_where (nat_lt process processes) process turn UnknownProcess h in
    let P : ℕ → Type 0 = λ x. (fields ≡ fields_of_turn x) × (x < processes) in
    subst P test.1 (one_field fields long ∙ rw (field_of-number_at fields 0 process e) refl, ltb-true process processes test.0)

turn_of-reads : (processes : ℕ) (fields : Fields) (turn : ℕ) → turn_of processes fields ≡ Ok turn → (fields ≡ fields_of_turn turn) × (turn < processes)
turn_of-reads processes fields turn h = by (length fields == 1) refl h
  where
    by : (b : Bool) → (length fields == 1) ≡ b → (if b then turn_read processes (number_at fields 0) else Err Shape) ≡ Ok turn
        → (fields ≡ fields_of_turn turn) × (turn < processes)
    by true e is = turn_read-written processes fields turn (number_at fields 0) (eqb-true (length fields) 1 e) refl is
    by false e is = absurd (cc)

turn_of-writes : (processes turn : ℕ) → processes ≤ 2 ^ 64 → turn < processes → turn_of processes (fields_of_turn turn) ≡ Ok turn
unfolding field_at
turn_of-writes processes turn few is = rw (number_of-decimal turn (omega arith), lt-ltb turn processes is) refl

pub IsForm-turn : (processes : ℕ) → processes ≤ 2 ^ 64 → IsForm (turn_of processes) fields_of_turn (λ process. process < processes)
IsForm-turn processes few = record {
  reads = turn_of-reads processes;
  writes = λ turn is. turn_of-writes processes turn few is;
}

-- what a schedule's file holds
pub Schedules-written : (processes : ℕ) (records : List Fields) (r : Result (Vec ℕ Global) (ReadFault ScheduleWhy)) → processes ≤ 2 ^ 64
    → IfOk r (λ turns. schedule_of processes records ≡ Ok turns.items) → IfOk r (λ turns. Schedules processes records turns.items)
Schedules-written processes records r few h =
    by r (read-written (turn_of processes) fields_of_turn (λ process. process < processes) most_scheduled_turns TooManyTurns records r (IsForm-turn processes few) h)
  where
    by : (r : Result (Vec ℕ Global) (ReadFault ScheduleWhy)) → IfOk r (λ turns. AreWritten fields_of_turn (λ process. process < processes) most_scheduled_turns 1 records turns.items)
        → IfOk r (λ turns. Schedules processes records turns.items)
    by (Ok turns) are = record { spelled = are.spelled; each = are.each; few = let few = are.few in omega arith }
    by (Err fault) are = tt

-- a file that is a schedule gives it
pub schedule_of-Schedules : (processes : ℕ) (records : List Fields) (turns : List ℕ) → processes ≤ 2 ^ 64 → Schedules processes records turns
    → schedule_of processes records ≡ Ok turns
schedule_of-Schedules processes records turns few schedules =
    items_of-map (turn_of processes) fields_of_turn (λ process. process < processes) most_scheduled_turns TooManyTurns records turns (IsForm-turn processes few)
    schedules.spelled schedules.each schedules.few

-- a file that is a schedule isn't refused
pub Schedules-accepted : (processes : ℕ) (records : List Fields) (r : Result (Vec ℕ Global) (ReadFault ScheduleWhy)) (turns : List ℕ) → processes ≤ 2 ^ 64
    → ((bad : BadRecord ScheduleWhy) → r ≡ Err (Bad bad) → schedule_of processes records ≡ Err bad) → Schedules processes records turns → IfErr r (λ fault. fault ≡ NoMemory)
Schedules-accepted processes records r turns few bad schedules =
    read-accepts (turn_of processes) fields_of_turn (λ process. process < processes) most_scheduled_turns TooManyTurns records r turns (IsForm-turn processes few) bad
    schedules.spelled schedules.each schedules.few
