use Rattle.std.proofs.Common.{◌≡◌, ◌<◌, ◌==◌, All, filter, length}
use Rattle.at_pages.proofs.Prelude.{range_with_len, turn_at}
use Rattle.at_pages.proofs.turns.own_turns.Given as goal

-- those of the turns so far are there
abbrev pub invariant-loop-i : goal.invariant-loop-i
invariant-loop-i l = record {
  turns : l.own.items ≡ filter (λ m. (turn_at l.turns m).process == l.process) (range_with_len 0 l.i);
  within : All (λ m. m < length l.turns) l.own.items;
}
