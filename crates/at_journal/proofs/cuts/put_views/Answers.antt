use Rattle.std.proofs.Common.{rules, ◌≡◌, [], ◌∷◌, get_or, map, subst, sym}
use Rattle.at_journal.proofs.Prelude.{option_copied, map-append, Record, AreAdded}
use Rattle.at_journal.proofs.CutLists.{AreAdded-all, AreAdded-more, AreAdded-none}
use Rattle.at_journal.proofs.cuts.put_views.Goals as goal

pub loop-record-init : goal.loop-record-init
loop-record-init c = AreAdded-none (map option_copied c.args.cuts.now.items)

pub loop-record-preserved : goal.loop-record-preserved
loop-record-preserved c =
    let old = map option_copied c.loop-record.cuts.items in
    let new = map option_copied c.put_cut.new.cuts.items in
    let item : get_or c.args.log.now c.loop-record.record-index c.record-item.result ≡ c.record-item.result = search rules in
    AreAdded-more (map (λ (x : Record). x.view)) c.args.log.now c.loop-record.record-index c.record-item.result (map option_copied c.args.cuts.now.items) old new
    (map-append (λ (x : Record). x.view)) (search rules) c.loop-record.invariant
    (subst (λ (x : Record). AreAdded (x.view ∷ []) old new) (sym item) c.put_cut.ensures)

pub returns : goal.returns
returns c =
    AreAdded-all (map (λ (x : Record). x.view)) c.args.log.now c.loop-record.record-index (map option_copied c.args.cuts.now.items) (map option_copied c.loop-record.cuts.items)
    (search rules) c.loop-record.invariant
