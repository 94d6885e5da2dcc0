use Rattle.std.proofs.Common.{ℕ, List, [], append-nil, arith, get_or, map, subst, sym}
use Rattle.at_journal.proofs.Prelude.{cons_option, flat_map, option_copied, flat_map-append, AreAdded, cut_of, CutAt}
use Rattle.at_journal.proofs.CutLists.{AreAdded-all, AreAdded-more}
use Rattle.at_journal.proofs.named_cuts.put_all_named.Goals as goal

pub loop-one-preserved : goal.loop-one-preserved
loop-one-preserved c =
    let cuts_of : List CutAt → List (List ℕ) = flat_map (λ x. cons_option (cut_of c.args.receipts.now x) []) in
    AreAdded-more cuts_of c.args.list.now c.loop-one.one-index (record { place = 0; number = 0 }) (map option_copied c.args.cuts.now.items)
    (map option_copied c.loop-one.cuts.items) (map option_copied c.put_named.new.cuts.items)
    (flat_map-append (λ (x : CutAt). cons_option (cut_of c.args.receipts.now x) [])) (omega (arith, c.loop-one-test.true)) c.loop-one.invariant
    (subst (λ (vs : List (List ℕ)). AreAdded vs (map option_copied c.loop-one.cuts.items) (map option_copied c.put_named.new.cuts.items))
    (sym (append-nil (cons_option (cut_of c.args.receipts.now (get_or c.args.list.now c.loop-one.one-index (record { place = 0; number = 0 }))) []))) c.put_named.ensures)

pub returns : goal.returns
returns c =
    let cuts_of : List CutAt → List (List ℕ) = flat_map (λ x. cons_option (cut_of c.args.receipts.now x) []) in
    subst (λ (vs : List (List ℕ)). AreAdded vs (map option_copied c.args.cuts.now.items) (map option_copied c.loop-one.cuts.items)) c.requires.all
    (AreAdded-all cuts_of c.args.list.now c.loop-one.one-index (map option_copied c.args.cuts.now.items) (map option_copied c.loop-one.cuts.items)
    (omega (arith, c.loop-one-test.false)) c.loop-one.invariant)
