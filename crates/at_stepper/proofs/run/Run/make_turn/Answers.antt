use Rattle.std.proofs.Common.{◌≡◌, ◌∙◌, ◌<◌, arith, length, nat_lt, refl, sym}
use Rattle.at_stepper.proofs.Prelude.{le-ltb, lt-ltb, count_of, CallerTerms, stepper_terms}
use Rattle.at_stepper.proofs.RunLaws.{length-PublishesAtMostOne, own_seen-at}
use Rattle.at_stepper.proofs.SteppingLaws.{known-calls_left}
use Rattle.at_stepper.proofs.run.Run.make_turn.Goals as goal

pub returns-clause-made : goal.returns-clause-made
returns-clause-made c =
    let before = c.args.self.now in
    let after = c.turn.new.self in
    let p = c.args.process in
    let was : CallerTerms = c.index.result.now in
    let now : CallerTerms = c.index-2.result.now in
    let turned = c.turn.ensures.turned in
    let within : p < length before.callers.items = known-calls_left before.callers.items p c.requires.left in
    let inside : p < length after.callers.items = omega (arith, within, turned.changes.count) in
    let few : count_of p before.overview.seen ≡ c.published-before.result =
    own_seen-at before.ledger before.callers.items p before.overview.seen within c.requires.run.callers c.requires.run.published was c.index.ensures
    ∙ sym c.published-before.ensures in
    let more : count_of p after.overview.seen ≡ c.published.result =
    own_seen-at after.ledger after.callers.items p after.overview.seen inside c.turn.ensures.run.callers c.turn.ensures.run.published now c.index-2.ensures
    ∙ sym c.published.ensures in
    record {
      process_is = refl;
      turned = c.turn.result;
      turns = turned;
      made = record {
        step = λ other. c.next-step.ensures c.turn.result (stepper_terms after) turned other;
        reply = c.reply-reply.ensures;
        published = length-PublishesAtMostOne p before.overview.seen after.overview.seen (nat_lt c.published-before.result c.published.result) turned.publishes
            (λ same. le-ltb c.published-before.result c.published.result (omega (arith, same, few, more)))
            (λ above. lt-ltb c.published-before.result c.published.result (omega (arith, above, few, more)));
      };
    }
