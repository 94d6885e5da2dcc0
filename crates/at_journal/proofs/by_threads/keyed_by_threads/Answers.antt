use Rattle.std.proofs.Common.{◌≡◌, ◌<◌, [], arith, get_or, length, map, subst, sym, ◌∙◌, List, Vec, ℕ}
use Rattle.at_journal.proofs.Prelude.{IfOk-weaker, Global, flat_map, journal_order, all_keyed, all_keys, HasOwnPositions, MayBeKeyed}
use Rattle.at_journal.proofs.KeyedByThreads.{joined-all_keyed}
use Rattle.at_journal.proofs.LinePositions.{HasStarts-receipt}
use Rattle.at_journal.proofs.OwnPositions.{HasOwnPositions-positions_of}
use Rattle.at_journal.proofs.by_threads.keyed_by_threads.Goals as goal

pub map_indices-requires-after_bounds : goal.map_indices-requires-after_bounds
map_indices-requires-after_bounds g c κs lives = λ p within.
    let closing = c.args.closing.now in
    let starts = map (λ v. v.items) c.args.starts.now in
    let known : p < length closing.receipts = omega (arith, within, c.processes-2.ensures.receipts) in
    let rows = c.in_ok-rows.rows.items in
    let of_rows : MayBeKeyed closing p (map (λ v. v.items) rows) starts = record {
      small_process = omega (arith, within, c.processes-2.ensures.few);
      known = known;
      owned = omega (arith, known, c.in_ok-rows.ensures.sized, c.processes.ensures.receipts);
      few = c.requires.few p [] known;
      found = λ i inside.
          HasStarts-receipt c.args.book.now closing p (get_or (map (λ v. v.items) rows) p []) starts c.requires.coherent
          (subst (HasOwnPositions p (journal_order closing)) (sym (c.in_ok-rows.ensures.each p (omega (arith, known, c.processes.ensures.receipts))))
          (HasOwnPositions-positions_of p closing c.args.order.now (journal_order closing) c.requires.order_is c.requires.records)) c.requires.starts_are i
          (omega (arith, known, c.requires.coherent.receipts)) inside;
      small = c.requires.small;
    } in
    subst (λ (l : List (Vec ℕ Global)). MayBeKeyed closing p (map (λ v. v.items) l) starts) (sym c.as_slice-own.ensures.value) of_rows

pub returns : goal.returns
returns g c =
    let closing = c.args.closing.now in
    let lists = c.in_ok-lists.lists.items in
    let whole : flat_map (λ v. v.items) lists ≡ all_keyed (all_keys closing) =
    joined-all_keyed closing c.in_ok-made.made.items lists c.in_ok-lists.ensures
    (omega (arith, c.in_ok-made.ensures.len, c.in_ok-made.made.ok, c.processes-2.ensures.receipts))
    (λ p d known. (c.in_ok-made.ensures.each p d (omega (arith, known, c.processes-2.ensures.receipts))).1.met) in
    IfOk-weaker c.joined.result (λ all. all.items ≡ flat_map (λ v. v.items) lists) (λ all. all.items ≡ all_keyed (all_keys closing)) (λ all is. is ∙ whole)
    c.joined.ensures
