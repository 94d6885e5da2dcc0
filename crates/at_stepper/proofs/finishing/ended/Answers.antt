use Rattle.std.proofs.Common.{◌∙◌, ◌^◌, ◌<◌, List, ap, length, map, subst, sym}
use Rattle.std.specs.Prelude.{All}
use Rattle.at_stepper.proofs.Prelude.{Receipt, calls_of, contents_of, IsAnsweredBy, caller_passes, Run}
use Rattle.at_stepper.proofs.SteppingLaws.{AreAccountedFor-split, calls_left-at, calls_of-answered, few-answered}
use Rattle.at_stepper.proofs.finishing.ended.Goals as goal

pub parts-passes-requires-clause-idle : goal.parts-passes-requires-clause-idle
parts-passes-requires-clause-idle c = λ k d within. sym (calls_left-at c.args.run.callers.items k d within) ∙ c.requires.over k

pub returns-clause-ended : goal.returns-clause-ended
returns-clause-ended c =
    let lists = contents_of c.parts-passes.result.1.items in
    let callers = c.args.run.callers.items in
    let split = c.parts-passes.ensures in
    record {
      answered = subst (λ (run : Run). IsAnsweredBy run lists) (sym c.of-was.ensures) (record {
        over = c.requires.over;
        count = c.requires.run.callers.count;
        published = c.requires.run.published;
        between = λ p d within. (split.all p d within).between;
        receipts_are = split.receipts_are;
        made = ap (map calls_of) split.receipts_are ∙ calls_of-answered callers split.all;
        few = subst (All (λ (rs : List Receipt). length rs < 2 ^ 32)) (sym split.receipts_are) (few-answered callers split.all);
      });
      passes_are = split.passes_are ∙ sym (ap (λ (run : Run). caller_passes run.callers.items) c.of-was.ensures);
      accounted = AreAccountedFor-split c.args.run.ledger callers c.parts-passes.result.0.items lists c.requires.run.callers split;
      ledger_is = sym (ap (λ (run : Run). run.ledger) c.of-was.ensures);
    }
