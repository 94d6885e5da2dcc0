use Rattle.std.proofs.Common.{rules, ◌≡◌, [], get_or, map, subst, sym}
use Rattle.at_journal.proofs.Prelude.{cons_option, filter_map, option_copied, filter_map-append, cut_at, Receipt, AreAdded}
use Rattle.at_journal.proofs.CutLists.{AreAdded-all, AreAdded-more, AreAdded-none}
use Rattle.at_journal.proofs.cuts.put_cuts.Goals as goal

pub loop-receipt-init : goal.loop-receipt-init
loop-receipt-init c = AreAdded-none (map option_copied c.args.cuts.now.items)

pub loop-receipt-preserved : goal.loop-receipt-preserved
loop-receipt-preserved c =
    let old = map option_copied c.loop-receipt.cuts.items in
    let new = map option_copied c.put_cut_at.new.cuts.items in
    let item : get_or c.args.receipts.now c.loop-receipt.receipt-index c.receipt-item.result ≡ c.receipt-item.result = search rules in
    AreAdded-more (filter_map (λ (r : Receipt). cut_at r.at)) c.args.receipts.now c.loop-receipt.receipt-index c.receipt-item.result
    (map option_copied c.args.cuts.now.items) old new (filter_map-append (λ (r : Receipt). cut_at r.at)) (search rules) c.loop-receipt.invariant
    (subst (λ (r : Receipt). AreAdded (cons_option (cut_at r.at) []) old new) (sym item) c.put_cut_at.ensures)

pub returns : goal.returns
returns c =
    AreAdded-all (filter_map (λ (r : Receipt). cut_at r.at)) c.args.receipts.now c.loop-receipt.receipt-index (map option_copied c.args.cuts.now.items)
    (map option_copied c.loop-receipt.cuts.items) (search rules) c.loop-receipt.invariant
