use Rattle.std.proofs.Common.{map, take}
use Rattle.at_journal.proofs.Prelude.{option_copied, AreAdded}
use Rattle.at_journal.proofs.cuts.put_views.Given as goal

abbrev pub invariant-loop-record : goal.invariant-loop-record
invariant-loop-record l =
    AreAdded (map (λ x. x.view) (take l.record-index l.log)) (map option_copied l.fn.cuts.items) (map option_copied l.cuts.items)
