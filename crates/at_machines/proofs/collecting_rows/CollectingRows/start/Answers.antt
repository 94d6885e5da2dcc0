use Rattle.std.proofs.Common.{[], sym, subst, arith}
use Rattle.at_machines.proofs.Prelude.{common_steps, SeatTerms, IsCollectingRowsSo, LoadingRowTerms}
use Rattle.at_machines.proofs.CollectingRowsLaws.{IsCollectingRowsSo-start, SeesRequest-start}
use Rattle.at_machines.proofs.collecting_rows.CollectingRows.start.Goals as goal

pub start-requires-clause-own : goal.start-requires-clause-own
start-requires-clause-own c = SeesRequest-start c.args.seat.now.knows c.args.account c.args.own c.known.ensures.seat c.requires

pub invariant_of-result : goal.invariant_of-result
invariant_of-result c =
    let v = c.args.seat.now.knows in
    subst (λ (s : SeatTerms). IsCollectingRowsSo s.knows c.start.result c.empty.result 0) (sym c.of.ensures)
    (subst (λ list. IsCollectingRowsSo v c.start.result list 0) (sym c.empty.ensures)
    (subst (λ (r : LoadingRowTerms). IsCollectingRowsSo v r [] 0) (sym c.start.ensures) (IsCollectingRowsSo-start v c.args.account c.args.own c.known.ensures.seat c.requires)))

pub returns : goal.returns
returns c = grind (arith, common_steps)
