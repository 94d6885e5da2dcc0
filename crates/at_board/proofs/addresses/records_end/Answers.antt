use Rattle.std.proofs.Common.{sym, ◌∙◌, arith}
use Rattle.at_board.proofs.Prelude.{common_steps}
use Rattle.at_board.proofs.WordLaws.Addresses.{index_of-record_word_first}
use Rattle.at_board.proofs.WordLaws.Sizes.{log_start-next}
use Rattle.at_board.proofs.addresses.records_end.Goals as goal

pub loop-p-init : goal.loop-p-init
loop-p-init c = (c.processes-end.ensures ∙ sym (index_of-record_word_first c.args.book.now), c.processes-end.type_inv)

pub loop-p-preserved : goal.loop-p-preserved
loop-p-preserved c =
    log_start-next c.args.book.now c.loop-p.p c.loop-p.end c.log_room.result c.processes.result c.known.ensures.checked.begun
    (omega (arith, c.processes-p-end.ensures)) c.loop-p.invariant.0 c.log_room.ensures c.processes.ensures

pub overflow_mul-end : goal.overflow_mul-end
overflow_mul-end c = grind (arith, common_steps)

pub overflow_add-end-in-loop-p : goal.overflow_add-end-in-loop-p
overflow_add-end-in-loop-p c = grind (arith, common_steps)
