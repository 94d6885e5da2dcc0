use Rattle.std.proofs.Common.{◌≡◌, [], ◌∷◌, ap, arith, map, subst, sym, ◌∙◌}
use Rattle.at_journal.proofs.Prelude.{set, option_copied, length-map, map-set, AreAdded}
use Rattle.std.specs.Prelude.{Some}
use Rattle.at_journal.proofs.CutLists.{AreAdded-beyond, AreAdded-set}
use Rattle.at_journal.proofs.cuts.put_cut.Goals as goal

pub returns-then-place-len : goal.returns-then-place-len
returns-then-place-len c =
    let cuts = c.args.cuts.now.items in
    let view = c.args.counts.now in
    let put : set (map option_copied cuts) c.total-place.result (Some view) ≡ map option_copied (set cuts c.total-place.result (Some c.args.counts)) =
    sym (map-set option_copied cuts c.total-place.result (Some c.args.counts)) in
    subst (AreAdded (view ∷ []) (map option_copied cuts))
    (ap (λ m. set (map option_copied cuts) m (Some view)) (sym c.total-place.ensures.total) ∙ put)
    (AreAdded-set (map option_copied cuts) view (omega (arith, length-map cuts option_copied, c.total-place.ensures.total, c.if-place-len.true, c.len.ensures, c.args.cuts.now.ok.0)))

pub returns-else-place-len : goal.returns-else-place-len
returns-else-place-len c =
    AreAdded-beyond (map option_copied c.args.cuts.now.items) c.args.counts.now
    (omega (arith, length-map c.args.cuts.now.items option_copied, c.total-place.ensures.total, c.if-place-len.false, c.len.ensures, c.args.cuts.now.ok.0))
