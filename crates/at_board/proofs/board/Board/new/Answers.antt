use Rattle.std.proofs.Common.{◌∙◌, arith}
use Rattle.at_board.proofs.Prelude.{common_steps}
use Rattle.at_board.proofs.EndLaws.Opening.{Ruled-new}
use Rattle.at_board.proofs.board.Board.new.Goals as goal

pub of_words-requires : goal.of_words-requires
of_words-requires c =
    Ruled-new c.of.result.value c.args.book.now c.as_slice.result.now c.word_count.result c.of.ensures c.word_count.ensures.count
    (c.as_slice.ensures.value ∙ c.in_ok-words.ensures.items_if_clones_equal (λ y e. e))

pub returns-clause-few : goal.returns-clause-few
returns-clause-few c = grind (arith, common_steps)

pub deal-requires-clause-first : goal.deal-requires-clause-first
deal-requires-clause-first c = grind (arith, common_steps)

pub invariant_of-result : goal.invariant_of-result
invariant_of-result c = grind (arith, common_steps)

pub returns-clause-seats : goal.returns-clause-seats
returns-clause-seats c = grind (arith, common_steps)
