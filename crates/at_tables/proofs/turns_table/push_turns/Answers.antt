use Rattle.std.proofs.Common.{◌≡◌, ◌<◌, ◌∙◌, ℕ, arith, length, take, None, false}
use Rattle.std.specs.Prelude.{slice_index_or}
use Rattle.at_tables.proofs.Prelude.{records_text-map_more, turn_at, answered_by, TurnMade, turn_fields}
use Rattle.at_tables.proofs.TurnCountLaws.{AreCounted-more}
use Rattle.at_tables.proofs.turns_table.push_turns.Goals as goal

pub loop-i-preserved : goal.loop-i-preserved
loop-i-preserved c =
    let i : ℕ = c.loop-i.i in
    let turns = c.args.turns.now in
    let t : TurnMade = turn_at turns i in
    let counted = c.loop-i.invariant.1 in
    let within : i < length turns = omega (arith, c.loop-i-test.true, c.loop-i.auto.i-end) in
    let d : TurnMade = record { process = 0; step = None; reply = None; published = false } in
    let small : t.process < 16 = omega (arith, c.requires.processes i d within, c.known.ensures.checked.begun.few_processes) in
    let number : slice_index_or c.loop-i.answered t.process 0 ≡ answered_by t.process (take i turns) = counted.each t.process small in (
      rw number at c.in_ok-push_turn.ensures
          ∙ rw c.loop-i.invariant.0 (records_text-map_more (turn_fields c.args.book.now c.args.names.now turns) c.args.out.now.items i),
      rw c.answers.ensures (AreCounted-more turns i c.loop-i.answered within small counted),
    )
