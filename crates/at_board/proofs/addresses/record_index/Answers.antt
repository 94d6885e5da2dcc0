use Rattle.std.proofs.Common.{◌≡◌, ◌+◌, ◌*◌, get_or, ap, ◌∙◌, arith}
use Rattle.at_board.proofs.Prelude.{common_steps, BookTerms, index_of, record_width, record_word}
use Rattle.at_board.proofs.WordLaws.Addresses.{index_of-record_word}
use Rattle.at_board.proofs.addresses.record_index.Goals as goal

pub returns : goal.returns
returns c =
    let b : BookTerms = c.args.book.now in
    let start : get_or c.deref.result.now c.args.p 0 ≡ index_of b (record_word c.args.p 0 0) =
    ap (λ l. get_or l c.args.p 0) c.deref.ensures.0 ∙ c.requires.starts.each c.args.p c.requires.place.0 in
    let width : c.args.i * (7 + c.processes.result) ≡ c.args.i * record_width b = ap (λ n. c.args.i * (7 + n)) c.processes.ensures in
    omega (arith, start, width, index_of-record_word b c.args.p c.args.i c.args.j)

pub overflow_add-result-2 : goal.overflow_add-result-2
overflow_add-result-2 c = grind (arith, common_steps)

pub overflow_mul-result : goal.overflow_mul-result
overflow_mul-result c = grind (arith, common_steps)

pub overflow_add-result : goal.overflow_add-result
overflow_add-result c = grind (arith, common_steps)

pub bounds-deref-p : goal.bounds-deref-p
bounds-deref-p c = grind (arith, common_steps)
