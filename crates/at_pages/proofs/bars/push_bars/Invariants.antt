use Rattle.std.proofs.Common.{◌≡◌, ◌++◌, flat_map}
use Rattle.at_pages.proofs.Prelude.{range_with_len, contents_of, bar_text, begins_next, span_in}
use Rattle.at_pages.proofs.bars.push_bars.Given as goal

-- the bars so far are there
abbrev pub invariant-loop-k : goal.invariant-loop-k
invariant-loop-k l =
    l.out.items
    ≡ l.initial.out.items ++ flat_map (λ k. bar_text l.names (contents_of l.files) (begins_next l.turns l.spans k) (span_in l.spans k)) (range_with_len 0 l.k)
