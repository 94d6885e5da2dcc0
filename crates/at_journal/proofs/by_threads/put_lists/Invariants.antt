use Rattle.std.proofs.Common.{map, take}
use Rattle.at_journal.proofs.Prelude.{filter_map, flat_map, option_copied, cut_at, AreAdded}
use Rattle.at_journal.proofs.by_threads.put_lists.Given as goal

abbrev pub invariant-loop-p : goal.invariant-loop-p
invariant-loop-p l =
    AreAdded (flat_map (λ receipts. filter_map (λ r. cut_at r.at) receipts) (take l.p l.closing.receipts))
    (map option_copied l.fn.cuts.items) (map option_copied l.cuts.items)
