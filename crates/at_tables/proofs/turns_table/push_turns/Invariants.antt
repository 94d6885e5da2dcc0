use Rattle.std.proofs.Common.{◌≡◌, ◌++◌, map}
use Rattle.at_tables.proofs.Prelude.{range_with_len, records_text, turn_fields}
use Rattle.at_tables.proofs.TurnCountLaws.{AreCounted}
use Rattle.at_tables.proofs.turns_table.push_turns.Given as goal

-- the records of the turns so far are there, and the calls that they have answered are counted
abbrev pub invariant-loop-i : goal.invariant-loop-i
invariant-loop-i l =
    (l.out.items ≡ l.initial.out.items ++ records_text (map (turn_fields l.book l.names l.turns) (range_with_len 0 l.i)))
    × AreCounted l.turns l.i l.answered
