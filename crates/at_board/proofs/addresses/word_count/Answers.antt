use Rattle.std.proofs.Common.{arith}
use Rattle.at_board.proofs.Prelude.{common_steps}
use Rattle.at_board.proofs.WordLaws.Sizes.{word_count-computed, word_count-le}
use Rattle.at_board.proofs.addresses.word_count.Goals as goal

pub returns-clause-count : goal.returns-clause-count
returns-clause-count c = word_count-computed c.args.book.now c.records_end.result c.slot_count.result c.request_room-numbers.result c.records_end.ensures.end c.slot_count.ensures.count c.request_room-numbers.ensures

pub returns-clause-few : goal.returns-clause-few
returns-clause-few c = omega (arith, returns-clause-count c, word_count-le c.args.book.now c.known.ensures.checked.begun)

pub overflow_add-result : goal.overflow_add-result
overflow_add-result c = grind (arith, common_steps)

pub overflow_mul-result : goal.overflow_mul-result
overflow_mul-result c = grind (arith, common_steps)
