use Rattle.std.proofs.Common.{◌≡◌, ◌<◌, ◌++◌, [], ap, arith, get_or, length, map, subst, sym, ◌∙◌}
use Rattle.at_journal.proofs.Prelude.{get_or-map, length-map, flat_map, range_with_len, journal_order, all_keys, keyed_of, HasOwnPositions}
use Rattle.at_journal.proofs.LineOrder.{get_or-all_keys, length-all_keys}
use Rattle.at_journal.proofs.LinePositions.{HasStarts-receipt}
use Rattle.at_journal.proofs.OrderedLaws.{pushed-flat_range}
use Rattle.at_journal.proofs.OwnPositions.{HasOwnPositions-positions_of}
use Rattle.at_journal.proofs.lines.keyed_calls.Goals as goal

pub push_calls-requires-clause-few : goal.push_calls-requires-clause-few
push_calls-requires-clause-few c =
    c.requires.few c.loop-p.p [] (omega (arith, c.requires.coherent.receipts))

pub own_positions-requires : goal.own_positions-requires
own_positions-requires c = λ i d within. omega (arith, (c.requires.records i d within).0, c.processes.ensures.logs)

pub index-requires : goal.index-requires
index-requires c =
    omega (arith, c.in_ok-own.ensures.sized, length-map c.in_ok-own.own.items (λ v. v.items), c.processes.ensures.receipts, c.processes-p-end.ensures, c.requires.coherent.receipts)

pub push_calls-requires-clause-starts : goal.push_calls-requires-clause-starts
push_calls-requires-clause-starts c =
    let closing = c.args.closing.now in
    let p = c.loop-p.p in
    let lists = map (λ v. v.items) c.in_ok-own.own.items in
    let known : p < c.processes.result = omega (arith, c.processes.ensures.receipts, c.processes-p-end.ensures, c.requires.coherent.receipts) in
    let row : get_or lists p [] ≡ c.as_slice.result.now =
    get_or-map (λ v. v.items) c.in_ok-own.own.items p c.index.result.now [] (omega (arith, known, c.in_ok-own.ensures.sized, length-map c.in_ok-own.own.items (λ v. v.items)))
    ∙ (sym (ap (λ v. v.items) c.index.ensures) ∙ sym c.as_slice.ensures.value) in
    let own : HasOwnPositions p (journal_order closing) c.as_slice.result.now =
    subst (HasOwnPositions p (journal_order closing)) (sym (c.in_ok-own.ensures.each p known) ∙ row)
    (HasOwnPositions-positions_of p closing c.args.order.now (journal_order closing) c.requires.order_is c.requires.records) in
    λ i within.
    HasStarts-receipt c.args.book.now closing p c.as_slice.result.now (map (λ v. v.items) c.args.starts.now) c.requires.coherent own c.requires.starts_are i
    (omega (arith, c.processes-p-end.ensures)) within

pub loop-p-preserved : goal.loop-p-preserved
loop-p-preserved c =
    let closing = c.args.closing.now in
    let p = c.loop-p.p in
    let known : p < length closing.receipts = omega (arith, c.requires.coherent.receipts, c.processes-p-end.ensures) in
    c.in_ok-push_calls.ensures
    ∙ (ap (λ keys. c.loop-p.all.items ++ keyed_of p keys) (sym (get_or-all_keys closing p known))
    ∙ pushed-flat_range (λ q. keyed_of q (get_or (all_keys closing) q [])) [] c.loop-p.all.items p c.loop-p.invariant)

pub returns : goal.returns
returns c =
    let closing = c.args.closing.now in
    let all : c.loop-p.p ≡ length (all_keys closing) = omega (arith, length-all_keys closing, c.requires.coherent.receipts, c.processes-p-end.ensures) in
    c.loop-p.invariant ∙ ap (λ n. flat_map (λ q. keyed_of q (get_or (all_keys closing) q [])) (range_with_len 0 n)) all
