use Rattle.std.proofs.Common.{[], map, take}
use Rattle.at_journal.proofs.Prelude.{cons_option, flat_map, option_copied, AreAdded, cut_of}
use Rattle.at_journal.proofs.named_cuts.put_all_named.Given as goal

-- so many of them are put
abbrev pub invariant-loop-one : goal.invariant-loop-one
invariant-loop-one l =
    AreAdded (flat_map (λ x. cons_option (cut_of l.receipts x) []) (take l.one-index l.list)) (map option_copied l.fn.cuts.items) (map option_copied l.cuts.items)
