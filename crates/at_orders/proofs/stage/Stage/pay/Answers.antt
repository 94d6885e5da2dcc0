use Rattle.at_orders.proofs.Prelude.{common_steps}
use Rattle.std.proofs.Common.{◌<◌, length, refl, sym, ◌∙◌, arith}
use Rattle.at_orders.proofs.Requests.{made-payment}
use Rattle.at_orders.proofs.stage.Stage.pay.Goals as goal

pub succeed-requires-clause-done : goal.succeed-requires-clause-done
succeed-requires-clause-done c l has = sym (c.reply_to_pay.ensures l has) ∙ c.in-Done.is

pub returns-in-Done-clause-ledger : goal.returns-in-Done-clause-ledger
returns-in-Done-clause-ledger c l has =
    let known = c.requires.process_in in
    let counts = c.requires.standing.counts in
    let counted : c.args.process < length c.args.self.now.made.items = omega arith in
    made-payment c.args.ground.now c.args.self.now c.succeed.new.self c.args.process c.args.from c.args.targets.now l c.requires.next counted known c.requires.source_in has
    (λ done. c.succeed.ensures.ledger l has) (λ differs. absurd (differs (sym (c.reply_to_pay.ensures l has) ∙ c.in-Done.is)))

pub returns-in_default : goal.returns-in_default
returns-in_default c =
    let known = c.requires.process_in in
    let counts = c.requires.standing.counts in
    let counted : c.args.process < length c.args.self.now.made.items = omega arith in
    record {
      ledger = λ l has. made-payment c.args.ground.now c.args.self.now c.args.self.now c.args.process c.args.from c.args.targets.now l c.requires.next counted known c.requires.source_in has
          (λ done. absurd (c.in_default.not-Done (c.reply_to_pay.ensures l has ∙ done))) (λ differs. has);
      made = refl;
      standing = c.requires.standing;
    }

pub succeed-requires-clause-targets_in : goal.succeed-requires-clause-targets_in
succeed-requires-clause-targets_in c = grind (arith, common_steps)

pub succeed-requires-clause-source_in : goal.succeed-requires-clause-source_in
succeed-requires-clause-source_in c = grind (arith, common_steps)
