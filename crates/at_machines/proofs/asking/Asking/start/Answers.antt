use Rattle.std.proofs.Common.{sym, subst}
use Rattle.at_machines.proofs.Prelude.{SeatTerms, AskingTerms, IsAskingSo}
use Rattle.at_machines.proofs.AskingLaws.{IsAskingSo-start}
use Rattle.at_machines.proofs.asking.Asking.start.Goals as goal

pub invariant_of-result : goal.invariant_of-result
invariant_of-result c =
    let v = c.args.seat.now.knows in
    let at : _ → _ → AskingTerms = λ start mark. record {
      start = start;
      mark = mark;
      account = c.args.account;
      targets = c.args.targets;
      since = c.args.since;
      stored = 0;
    } in
    subst (λ (s : SeatTerms). IsAskingSo (at s.knows c.of-2.result.value.knows)) (sym c.of.ensures)
    (subst (λ (s : SeatTerms). IsAskingSo (at v s.knows)) (sym c.of-2.ensures)
    (IsAskingSo-start v c.args.account c.args.targets c.args.since c.known.ensures.seat c.requires))
