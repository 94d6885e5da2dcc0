use Rattle.at_commands.proofs.Prelude.{common_steps, length_push, length-map, All-push, number_of, small, words_of}
use Rattle.std.proofs.Common.{◌≡◌, ◌^◌, ◌<◌, [], get_or, length, sym, ◌∙◌, ap, arith}
use Rattle.at_commands.proofs.Laws.FilesLoaded.{get_or-words_of}
use Rattle.at_commands.proofs.ValueLaws.{values_named-take_more}
use Rattle.at_commands.proofs.numbers.values_of.Goals as goal

pub loop-word-preserved : goal.loop-word-preserved
loop-word-preserved c =
    let before = c.loop-word.invariant in
    let words = words_of c.args.words.now in
    let within : c.loop-word.word-index < length c.args.words.now = omega arith in
    let within_words : c.loop-word.word-index < length words = rw length-map within in
    let word : get_or words c.loop-word.word-index [] ≡ c.as_str.result.now =
    get_or-words_of c.args.words.now c.loop-word.word-index c.word-item.result within c.word-item.is ∙ sym c.as_str.ensures.value in
    record {
      named = rw c.push.ensures.items (values_named-take_more words c.loop-word.word-index c.loop-word.values.items c.in_ok-value_of.field-0
          within_words before.named (ap (λ w. small (number_of w)) word ∙ sym c.in_ok-value_of.ensures.value));
      count = rw (c.push.ensures.items, length_push) (omega (arith, before.count));
      below = rw c.push.ensures.items (All-push (λ value. value < 2 ^ 32) c.loop-word.values.items c.in_ok-value_of.field-0 before.below c.in_ok-value_of.ensures.below);
    }

pub returns-clause-below : goal.returns-clause-below
returns-clause-below c = grind (arith, common_steps)

pub returns-in_err-value_of-clause-count : goal.returns-in_err-value_of-clause-count
returns-in_err-value_of-clause-count c = grind (arith, common_steps)

pub returns-in_err-value_of-clause-below : goal.returns-in_err-value_of-clause-below
returns-in_err-value_of-clause-below c = grind (arith, common_steps)

pub returns-clause-values : goal.returns-clause-values
returns-clause-values c = grind (arith, common_steps)
