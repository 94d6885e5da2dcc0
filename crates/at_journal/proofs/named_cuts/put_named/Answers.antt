use Rattle.std.proofs.Common.{◌≡◌, ◌≢◌, [], ap, get_or, map, refl, subst}
use Rattle.at_journal.proofs.Prelude.{cons_option, option_copied, get_or_default, cut_at, Receipt, AreAdded, cut_of}
use Rattle.std.specs.Prelude.{None}
use Rattle.at_journal.proofs.NamedCuts.{AreAdded-held}
use Rattle.at_journal.proofs.named_cuts.put_named.Goals as goal

pub returns-then-not-is_held : goal.returns-then-not-is_held
returns-then-not-is_held c =
    let receipts = c.args.receipts.now in
    let r : Receipt = c.index-receipts-one.result in
    let same : cut_at (get_or receipts c.args.one.now.number r).at ≡ cut_of receipts c.args.one.now =
    ap (λ (q : Receipt). cut_at q.at) (get_or_default receipts c.args.one.now.number r _ c.requires.within) in
    subst (λ o. AreAdded (cons_option o []) (map option_copied c.args.cuts.now.items) (map option_copied c.put_cut_at.new.cuts.items)) same c.put_cut_at.ensures

pub returns-else-not-is_held : goal.returns-else-not-is_held
returns-else-not-is_held c =
    AreAdded-held (map option_copied c.args.cuts.now.items) (cut_of c.args.receipts.now c.args.one.now) c.args.one.now.place c.requires.placed
    (subst (λ l. get_or (map option_copied l) c.args.one.now.place None ≢ None) c.as_slice.ensures.value (c.if-not-is_held.ensures.held refl))
