use Rattle.std.proofs.Common.{None, sym, subst}
use Rattle.at_machines.proofs.Prelude.{SeatTerms, CollectingTerms, IsSnappingSo, Collect}
use Rattle.at_machines.proofs.SnappingLaws.{IsSnappingSo-start}
use Rattle.at_machines.proofs.snapping.Snapping.start.Goals as goal

pub invariant_of-result : goal.invariant_of-result
invariant_of-result c =
    subst (λ (s : SeatTerms). IsSnappingSo s.knows c.of-2.result.value.knows None 0 (Collect c.start.result)) (sym c.of.ensures)
    (subst (λ (s : SeatTerms). IsSnappingSo c.args.seat.now.knows s.knows None 0 (Collect c.start.result)) (sym c.of-2.ensures)
    (subst (λ (t : CollectingTerms). IsSnappingSo c.args.seat.now.knows c.args.seat.now.knows None 0 (Collect t)) (sym c.start.ensures)
    (IsSnappingSo-start c.args.seat.now.knows c.known.ensures.seat)))
