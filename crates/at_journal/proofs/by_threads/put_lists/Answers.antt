use Rattle.std.proofs.Common.{◌≡◌, ℕ, List, [], ◌∷◌, ap, append-nil, arith, get_or, map, subst, sym, ◌∙◌}
use Rattle.at_journal.proofs.Prelude.{filter_map, flat_map, option_copied, flat_map-append, cut_at, Receipt, AreAdded}
use Rattle.at_journal.proofs.CutLists.{AreAdded-all, AreAdded-more, AreAdded-none}
use Rattle.at_journal.proofs.by_threads.put_lists.Goals as goal

pub loop-p-init : goal.loop-p-init
loop-p-init c = AreAdded-none (map option_copied c.args.cuts.now.items)

pub loop-p-preserved : goal.loop-p-preserved
loop-p-preserved c =
    let old = map option_copied c.loop-p.cuts.items in
    let new = map option_copied c.put_all_named.new.cuts.items in
    let cuts_of : List Receipt → List (List ℕ) = filter_map (λ r. cut_at r.at) in
    let receipts = c.args.closing.now.receipts in
    let piece : cuts_of c.receipts.result.now ≡ flat_map cuts_of (get_or receipts c.loop-p.p [] ∷ []) =
    ap cuts_of c.receipts.ensures ∙ sym (append-nil (cuts_of (get_or receipts c.loop-p.p []))) in
    AreAdded-more (flat_map cuts_of) receipts c.loop-p.p [] (map option_copied c.args.cuts.now.items) old new (flat_map-append cuts_of)
    (omega (arith, c.processes-p-end.ensures.receipts)) c.loop-p.invariant (subst (λ views. AreAdded views old new) piece c.put_all_named.ensures)

pub returns : goal.returns
returns c =
    let cuts_of : List Receipt → List (List ℕ) = filter_map (λ r. cut_at r.at) in
    AreAdded-all (flat_map cuts_of) c.args.closing.now.receipts c.loop-p.p (map option_copied c.args.cuts.now.items) (map option_copied c.loop-p.cuts.items)
    (omega (arith, c.processes-p-end.ensures.receipts)) c.loop-p.invariant
