use Rattle.std.proofs.Common.{List, subst}
use Rattle.at_c.proofs.Prelude.{TargetPair, Call, HandleAnswers, IsPayOut}
use Rattle.at_c.proofs.Near.{HandleAnswers-near}
use Rattle.at_c.proofs.handle.Handle.pay.Goals as goal

pub returns-in-Some : goal.returns-in-Some
returns-in-Some c =
    let near =
    subst (λ (ps : List TargetPair). HandleAnswers (Call.Pay c.args.from ps) c.args.self.now.held c.call.new.self.held c.args.answer.now c.call.new.answer c.call.result)
    c.in-Some.ensures.pairs c.call.ensures.answers in
    let payout : IsPayOut c.args.targets.now = c.in-Some.ensures.some in (
      λ _. HandleAnswers-near c.args.from c.args.targets.now c.args.self.now.held c.call.new.self.held c.args.answer.now c.call.new.answer c.call.result
          c.call.ensures.few near,
      λ other. absurd (other payout),
    )
