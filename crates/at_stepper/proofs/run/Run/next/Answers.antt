use Rattle.std.proofs.Common.{◌≡◌, ◌<◌, length, get_or, subst}
use Rattle.at_stepper.proofs.Prelude.{get_or_read, BoardTerms, CallerTerms, IsNextOf}
use Rattle.at_stepper.proofs.SteppingLaws.{known-calls_left}
use Rattle.at_stepper.proofs.run.Run.next.Goals as goal

pub returns : goal.returns
returns c turned after one other =
    let run = c.args.self.now in
    let p = c.args.process in
    let caller : CallerTerms = c.index.result.now in
    let within : p < length run.callers.items = known-calls_left run.callers.items p c.requires.left in
    let is : caller ≡ get_or run.callers.items p other = get_or_read run.callers.items p caller within c.index.ensures other in
    let next : IsNextOf run.ledger.book caller c.next.result =
    subst (λ (b : BoardTerms). IsNextOf b.book caller c.next.result) c.board.ensures c.next.ensures in
    subst (λ (k : CallerTerms). IsNextOf run.ledger.book k c.next.result) is next run.overview.seen turned (get_or after.callers p other) (one.changes.here other)
