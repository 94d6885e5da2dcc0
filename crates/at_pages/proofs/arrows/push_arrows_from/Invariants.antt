use Rattle.std.proofs.Common.{◌≡◌, ◌++◌, flat_map}
use Rattle.at_pages.proofs.Prelude.{range_with_len, arrow_text, decided_for, own_turn}
use Rattle.at_pages.proofs.arrows.push_arrows_from.Given as goal

-- the arrows of the turns so far are there
abbrev pub invariant-loop-k : goal.invariant-loop-k
invariant-loop-k l =
    l.out.items
    ≡ l.initial.out.items
    ++ flat_map (λ k. arrow_text l.names (own_turn l.fn.turns l.process k) l.process (decided_for l.book l.fn.turns l.process k)) (range_with_len 0 l.k)
