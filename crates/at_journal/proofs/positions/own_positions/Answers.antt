use Rattle.std.proofs.Common.{◌≡◌, ◌<◌, ◌+◌, ◌++◌, [], ◌∷◌, ap, arith, get_or, length, map, refl, subst, sym, ◌∙◌}
use Rattle.at_journal.proofs.Prelude.{set, get_or-map, length-map, map-set, no_number}
use Rattle.at_journal.proofs.OwnPositions.{HasFound, HasFound-more, HasFound-none}
use Rattle.at_journal.proofs.positions.own_positions.Goals as goal

pub loop-position-init : goal.loop-position-init
loop-position-init c =
    subst (HasFound c.args.processes c.args.order.now 0) (sym c.in_ok-lists.ensures) (HasFound-none c.args.processes c.args.order.now)

pub loop-position-preserved : goal.loop-position-preserved
loop-position-preserved c =
    let order = c.args.order.now in
    let k = c.loop-position.position in
    let p = (get_or order k no_number).process in
    let lists = map (λ v. v.items) c.loop-position.lists.items in
    let known : p < c.args.processes = c.requires k no_number (omega (arith, c.loop-position-test.true)) in
    let old : c.index_mut.result.now.items ≡ get_or lists p [] =
    ap (λ v. v.items) c.index_mut.ensures.value
    ∙ sym (get_or-map (λ v. v.items) c.loop-position.lists.items p c.index_mut.result.now []
    (omega (arith, known, c.loop-position.invariant.sized, length-map c.loop-position.lists.items (λ v. v.items)))) in
    let new : c.push.new.self.items ≡ get_or lists p [] ++ k ∷ [] = c.in_ok-push.ensures.items ∙ ap (λ xs. xs ++ k ∷ []) old in
    subst (HasFound c.args.processes order (k + 1)) (sym (map-set (λ v. v.items) c.loop-position.lists.items p c.push.new.self ∙ ap (set lists p) new))
    (HasFound-more c.args.processes order k p lists c.loop-position.invariant known refl)

pub returns : goal.returns
returns c =
    let lists = map (λ v. v.items) c.loop-position.lists.items in
    let all : c.loop-position.position ≡ length c.args.order.now = omega (arith, c.loop-position-test.false) in
    let so = subst (λ k. HasFound c.args.processes c.args.order.now k lists) all c.loop-position.invariant in
    record { sized = so.sized; each = so.each }
