use Rattle.std.proofs.Common.{map, take}
use Rattle.at_journal.proofs.Prelude.{flat_map, option_copied, AreAdded}
use Rattle.at_journal.proofs.cuts.put_all_views.Given as goal

abbrev pub invariant-loop-p : goal.invariant-loop-p
invariant-loop-p l =
    AreAdded (flat_map (λ log. map (λ x. x.view) log) (take l.p l.closing.logs)) (map option_copied l.fn.cuts.items) (map option_copied l.cuts.items)
