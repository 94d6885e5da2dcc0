use Rattle.std.proofs.Common.{◌≡◌, List, [], length, ap, sym, subst, ◌∙◌, arith}
use Rattle.at_logs.proofs.Prelude.{length-map, BacklogState, IsCompact, RoomyBacklog, kept_of, needed}
use Rattle.at_logs.proofs.StateLaws.{IsKept, written}
use Rattle.at_logs.proofs.compact.Compact.restore.Goals as goal

pub invariant_of-result : goal.invariant_of-result
invariant_of-result c =
    let old : List RoomyBacklog = c.saved.inside.backlogs.items in
    let new : List RoomyBacklog = c.make_room_waiting.new.backlogs in
    let was = c.deref_mut.ensures.value in
    let same : kept_of new ≡ kept_of old = c.in_ok-make_room_waiting.ensures.kept ∙ ap kept_of was in
    let many : length new ≡ length old = omega (arith, ap length same, length-map new (λ (l : RoomyBacklog). l.kept), length-map old (λ (l : RoomyBacklog). l.kept)) in
    subst (IsKept c.saved.inside.book c.saved.inside.validated c.saved.inside.told c.saved.inside.settled.items c.saved.inside.balances.items)
    (sym (written c.saved.inside.backlogs.len new old many (sym c.saved.inside.backlogs.ok.0))) (
      subst (λ (l : List BacklogState). IsCompact (record {
        book = c.saved.inside.book;
        validated = c.saved.inside.validated;
        told = c.saved.inside.told;
        settled = c.saved.inside.settled.items;
        balances = c.saved.inside.balances.items;
        backlogs = l;
      })) (sym same) (subst IsCompact (sym c.saved.view_is) c.requires),
      λ p known. omega (
        arith,
        c.in_ok-make_room_waiting.ensures.ok p known,
        ap (λ (l : List BacklogState). needed (record { book = c.saved.inside.book; validated = c.saved.inside.validated; told = c.saved.inside.told; settled = []; balances = []; backlogs = l }) p)
            c.in_ok-make_room_waiting.ensures.kept,
      ),
    )
