use Rattle.std.proofs.Common.{◌≡◌, ◌+◌, ◌-◌, ◌<◌, [], sym, ap, subst, ◌∙◌, arith}
use Rattle.at_board.proofs.Prelude.{common_steps, BookTerms, Knowledge, first_part, other_parts, starting_seat, length_of, HasCounts, IsSeat, SeatTerms}
use Rattle.at_board.proofs.EndLaws.Deals.{IsSeat-starting, Ruled-deal, first_part-rest_view, new_seats-more, other_parts-rest_view, rest_view, rest_view-last}
use Rattle.at_board.proofs.WordLaws.Addresses.{index_of-below}
use Rattle.at_board.proofs.KnowledgeLaws.Counts.{HasCounts-starting}
use Rattle.at_board.proofs.deal.deal.Goals as goal

pub split_seat-others-requires : goal.split_seat-others-requires
split_seat-others-requires c =
    let b : BookTerms = c.args.book.now in
    let some_process : 0 < b.processes = omega (arith, c.known.ensures.checked.begun.some_process) in (
      c.loop-process.invariant.2,
      omega (arith, c.requires.table.2, index_of-below b (length_of 0) some_process),
      λ s holds found. Ruled-deal c.args.shared.now.key.value s.words s.views c.loop-process.rest.id c.loop-process.rest.me.0 holds found,
    )

pub invariant_of-push : goal.invariant_of-push
invariant_of-push c =
    let b : BookTerms = c.args.book.now in
    let p = c.loop-process.process in
    let within : p < b.processes = omega (arith, c.processes-last.ensures) in
    let me = c.split_seat-others.ensures.2 in
    let view : c.split_seat-others.new.seat.me.0 ≡ starting_seat b p =
    ap (λ m. m.0) me ∙ (ap (λ m. first_part m.0) c.loop-process.invariant.3 ∙ first_part-rest_view b p within) in (
      ap (λ m. m.1) me ∙ ap (λ m. m.1) c.loop-process.invariant.3,
      subst (λ (v : Knowledge). IsSeat v p 0) (sym view) (IsSeat-starting b p c.known.ensures.checked within),
      subst (λ (v : Knowledge). HasCounts v c.in_ok-no_requests.field-0.items) (sym view) (HasCounts-starting b p c.in_ok-no_requests.field-0.items c.in_ok-no_requests.ensures),
    )

pub invariant_of-push-2 : goal.invariant_of-push-2
invariant_of-push-2 c =
    let b : BookTerms = c.args.book.now in
    let p = c.processes-last.result - 1 in
    let last : p + 1 ≡ b.processes = omega (arith, c.processes-last.ensures, c.known.ensures.checked.begun.some_process) in
    let at : c.loop-process.process ≡ p = omega (arith, c.loop-process.auto.process-end) in
    let view : c.loop-process.rest.me.0 ≡ starting_seat b p =
    ap (λ m. m.0) c.loop-process.invariant.3 ∙ (ap (rest_view b) at ∙ rest_view-last b p last) in (
      ap (λ m. m.1) c.loop-process.invariant.3,
      subst (λ (v : Knowledge). IsSeat v p 0) (sym view) (IsSeat-starting b p c.known.ensures.checked (omega arith)),
      subst (λ (v : Knowledge). HasCounts v c.in_ok-no_requests-2.field-0.items) (sym view) (HasCounts-starting b p c.in_ok-no_requests-2.field-0.items c.in_ok-no_requests-2.ensures),
    )

pub loop-process-preserved : goal.loop-process-preserved
loop-process-preserved c =
    let b : BookTerms = c.args.book.now in
    let p = c.loop-process.process in
    let within : p < b.processes = omega (arith, c.processes-last.ensures) in
    let dealt = c.split_seat-others.ensures in
    let view : c.split_seat-others.new.seat.me.0 ≡ starting_seat b p =
    ap (λ m. m.0) dealt.2 ∙ (ap (λ m. first_part m.0) c.loop-process.invariant.3 ∙ first_part-rest_view b p within) in
    let new : SeatTerms = record { board = c.args.shared.now.table_id; knows = starting_seat b p; steps = 0; exchanges = 0 } in
    let pushed : SeatTerms = record { board = c.split_seat-others.new.seat.table_id; knows = c.split_seat-others.new.seat.me.0; steps = c.none.result.steps; exchanges = c.none.result.exchanges } in
    let is : pushed ≡ new = λ t. record { board = (dealt.0 ∙ c.loop-process.invariant.2) t; knows = view t; steps = c.none.ensures.steps t; exchanges = c.none.ensures.exchanges t } in
    let more = new_seats-more b c.args.shared.now.table_id c.loop-process.seats.items c.push.new.self.items pushed p c.in_ok-push.ensures.items is
    c.loop-process.invariant.0 c.loop-process.invariant.1 in (
      more.0,
      more.1,
      dealt.3 ∙ c.loop-process.invariant.2,
      dealt.4 ∙ (λ t. (other_parts (c.loop-process.invariant.3 t).0, [])) ∙ (λ t. (other_parts-rest_view b p t, [])),
    )

pub returns : goal.returns
returns c = grind (arith, common_steps)

pub loop-process-init : goal.loop-process-init
loop-process-init c = grind (arith, common_steps)
