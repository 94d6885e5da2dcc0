use Rattle.std.proofs.Common.{◌≡◌, ◌+◌, [], ◌∷◌, ◌++◌, length, get_or, sym, ap, ◌∙◌, arith, inl, inr}
use Rattle.at_board.proofs.Prelude.{cases_lt, get_or_append_left, get_or_push, length_push, index_of, record_word}
use Rattle.at_board.proofs.WordLaws.Addresses.{index_of-record_word_first}
use Rattle.at_board.proofs.WordLaws.Sizes.{log_start-next}
use Rattle.at_board.proofs.addresses.log_starts.Goals as goal

pub loop-p-init : goal.loop-p-init
loop-p-init c =
    (ap length c.new-starts.ensures, λ q below. absurd (omega arith), c.processes-next.ensures ∙ sym (index_of-record_word_first c.args.book.now))

pub overflow_mul-next : goal.overflow_mul-next
overflow_mul-next c =
    let step = log_start-next c.args.book.now c.loop-p.p c.loop-p.next c.log_room.result c.processes.result
    c.known.ensures.checked.begun (omega (arith, c.processes-p-end.ensures)) c.loop-p.invariant.2 c.log_room.ensures c.processes.ensures in
    omega (arith, step.1)

pub overflow_add-next-in-loop-p : goal.overflow_add-next-in-loop-p
overflow_add-next-in-loop-p c =
    let step = log_start-next c.args.book.now c.loop-p.p c.loop-p.next c.log_room.result c.processes.result
    c.known.ensures.checked.begun (omega (arith, c.processes-p-end.ensures)) c.loop-p.invariant.2 c.log_room.ensures c.processes.ensures in
    omega (arith, step.1)

pub loop-p-preserved : goal.loop-p-preserved
loop-p-preserved c =
    let items = c.loop-p.starts.items in
    let step = log_start-next c.args.book.now c.loop-p.p c.loop-p.next c.log_room.result c.processes.result
    c.known.ensures.checked.begun (omega (arith, c.processes-p-end.ensures)) c.loop-p.invariant.2 c.log_room.ensures c.processes.ensures in (
      ap length c.push.ensures.items ∙ (length_push items c.loop-p.next ∙ ap (λ n. n + 1) c.loop-p.invariant.0),
      λ q below. ap (λ l. get_or l q 0) c.push.ensures.items ∙ elim (cases_lt q c.loop-p.p) as (λ _. get_or (items ++ c.loop-p.next ∷ []) q 0 ≡ index_of c.args.book.now (record_word q 0 0)) [
        | inl before ↦ get_or_append_left items (c.loop-p.next ∷ []) 0 q (omega (arith, c.loop-p.invariant.0)) ∙ c.loop-p.invariant.1 q before
        | inr after ↦
            let at : q ≡ c.loop-p.p = omega arith in
            get_or_push items c.loop-p.next 0 q (c.loop-p.invariant.0 ∙ sym at)
            ∙ (c.loop-p.invariant.2 ∙ ap (λ k. index_of c.args.book.now (record_word k 0 0)) (sym at))
      ],
      step.0,
    )
