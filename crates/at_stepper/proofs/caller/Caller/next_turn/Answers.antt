use Rattle.std.proofs.Common.{◌≡◌, ◌∙◌, IfSome, None, ap, subst, sym}
use Rattle.at_stepper.proofs.Prelude.{OverviewTerms, CallerTerms, own_seen, TakesTurn, stage_in}
use Rattle.at_stepper.proofs.BeginningLaws.{BeginsCall-next, IfSome-some, IsTurned-begun, IsTurned-some}
use Rattle.at_stepper.proofs.CallerLaws.{in_making, none-making}
use Rattle.at_stepper.proofs.caller.Caller.next_turn.Goals as goal

pub returns-then-is_some-clause-turned : goal.returns-then-is_some-clause-turned
returns-then-is_some-clause-turned c =
    let stage_is : stage_in c.self.inside.making.calling ≡ c.args.self.now.stage = ap (λ (t : CallerTerms). t.stage) c.self.view_is in
    IsTurned-some c.args.board.now.book c.args.overview.now.seen c.args.self.now c.turn.new.self c.turn.result
    (λ none. in_making c.self.inside.making.calling (sym c.is_some.ensures ∙ c.if-is_some.true) (stage_is ∙ none)) c.turn.ensures.turned

pub returns-clause-turned : goal.returns-clause-turned
returns-clause-turned c =
    let b = c.args.board.now.book in
    let seen = c.args.overview.now.seen in
    let was : CallerTerms = c.args.self.now in
    let mid : CallerTerms = c.learn.new.self in
    let ready : CallerTerms = c.begin.new.self in
    let after : CallerTerms = c.turn-2.new.self in
    let turned = c.turn-2.result in
    let stage_is : stage_in c.self.inside.making.calling ≡ was.stage = ap (λ (t : CallerTerms). t.stage) c.self.view_is in
    let none : was.stage ≡ None = sym stage_is ∙ none-making c.self.inside.making.calling (sym c.is_some.ensures ∙ c.if-is_some.false) in
    let begins = BeginsCall-next b seen was mid ready c.learn.ensures.learned c.learn.ensures.seen c.begin.ensures in
    let takes =
    IfSome-some (TakesTurn b seen ready after turned) ready.stage begins.0 begins.1
    (subst (λ (o : OverviewTerms). IfSome ready.stage (TakesTurn b o.seen ready after turned)) c.learn.ensures.same c.turn-2.ensures.turned) in
    IsTurned-begun b seen was ready after turned begins.0 none (c.requires.between none) begins.1 begins.2
    (ap (λ (t : CallerTerms). own_seen t) c.begin.ensures.same ∙ c.learn.ensures.own) takes
