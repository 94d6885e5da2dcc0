use Rattle.std.proofs.Common.{◌≡◌, ℕ, List, [], ◌∷◌, ap, append-nil, arith, get_or, map, subst, sym, ◌∙◌}
use Rattle.at_journal.proofs.Prelude.{flat_map, option_copied, flat_map-append, Record, AreAdded}
use Rattle.at_journal.proofs.CutLists.{AreAdded-all, AreAdded-more, AreAdded-none}
use Rattle.at_journal.proofs.cuts.put_all_views.Goals as goal

pub loop-p-init : goal.loop-p-init
loop-p-init c = AreAdded-none (map option_copied c.args.cuts.now.items)

pub loop-p-preserved : goal.loop-p-preserved
loop-p-preserved c =
    let old = map option_copied c.loop-p.cuts.items in
    let new = map option_copied c.put_views.new.cuts.items in
    let views_of : List Record → List (List ℕ) = map (λ x. x.view) in
    let logs = c.args.closing.now.logs in
    let piece : views_of c.log.result.now ≡ flat_map views_of (get_or logs c.loop-p.p [] ∷ []) =
    ap views_of c.log.ensures ∙ sym (append-nil (views_of (get_or logs c.loop-p.p []))) in
    AreAdded-more (flat_map views_of) logs c.loop-p.p [] (map option_copied c.args.cuts.now.items) old new (flat_map-append views_of)
    (omega (arith, c.processes-p-end.ensures.logs)) c.loop-p.invariant (subst (λ views. AreAdded views old new) piece c.put_views.ensures)

pub returns : goal.returns
returns c =
    let views_of : List Record → List (List ℕ) = map (λ x. x.view) in
    AreAdded-all (flat_map views_of) c.args.closing.now.logs c.loop-p.p (map option_copied c.args.cuts.now.items) (map option_copied c.loop-p.cuts.items)
    (omega (arith, c.processes-p-end.ensures.logs)) c.loop-p.invariant
