use Rattle.std.proofs.Common.{◌≡◌, ◌-◌, get_or, refl, ap, subst, ◌∙◌, arith}
use Rattle.at_machines.proofs.Prelude.{common_steps, IsVerdictOn, Verdict, Lent, Repeated, Undecided, CollectingTerms, LoadingTerms, starting_loading, Borrow, Collect}
use Rattle.at_machines.proofs.stage.Stage.judge.Goals.{After-compare}
use Rattle.at_machines.proofs.stage.Stage.judge.Goals as goal

-- what the collect says
says : (c : After-compare) (verdict : Verdict) → c.compare.result ≡ verdict
    → IsVerdictOn c.args.collects.now c.args.seat.now.knows.first c.args.now verdict
says c verdict is =
    subst (IsVerdictOn c.args.collects.now c.args.seat.now.knows.first c.args.now) is
    (subst (λ p. IsVerdictOn c.args.collects.now p c.args.now c.compare.result) c.process.ensures.process c.compare.ensures)

pub returns-in-Repeated : goal.returns-in-Repeated
returns-in-Repeated c = (Repeated, says (goal.at.returns-in-Repeated c).After-compare Repeated c.in-Repeated.is, (refl, refl))

pub returns-in-Lent : goal.returns-in-Lent
returns-in-Lent c =
    let p = c.in-Lent.p in
    let last : c.get-last.result - 1 ≡ get_or c.args.now p 0 - 1 = ap (λ k. k - 1) c.get-last.ensures in (
      Lent p,
      says (goal.at.returns-in-Lent c).After-compare (Lent p) c.in-Lent.is,
      (ap (λ (l : LoadingTerms). Borrow l) (c.start.ensures ∙ ap (starting_loading c.args.seat.now.knows p) last), refl),
    )

pub returns-in-Undecided : goal.returns-in-Undecided
returns-in-Undecided c = (
  Undecided,
  says (goal.at.returns-in-Undecided c).After-compare Undecided c.in-Undecided.is,
  (ap (λ (t : CollectingTerms). Collect t) c.start-in-Undecided.ensures, refl, c.add_collect.ensures),
)

pub overflow_sub-last : goal.overflow_sub-last
overflow_sub-last c = grind (arith, common_steps)

pub get-last-requires : goal.get-last-requires
get-last-requires c = grind (arith, common_steps)

pub start-requires-clause-record : goal.start-requires-clause-record
start-requires-clause-record c = grind (arith, common_steps)
