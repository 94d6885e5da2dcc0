use Rattle.std.proofs.Common.{map, take}
use Rattle.at_journal.proofs.Prelude.{filter_map, option_copied, cut_at, AreAdded}
use Rattle.at_journal.proofs.cuts.put_cuts.Given as goal

abbrev pub invariant-loop-receipt : goal.invariant-loop-receipt
invariant-loop-receipt l =
    AreAdded (filter_map (λ r. cut_at r.at) (take l.receipt-index l.receipts)) (map option_copied l.fn.cuts.items) (map option_copied l.cuts.items)
