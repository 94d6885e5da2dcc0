use Rattle.std.proofs.Common.{◌+◌, List, arith, sym, subst}
use Rattle.at_journal.proofs.Prelude.{CutAt}
use Rattle.at_journal.proofs.NamedCuts.{NameFirst, NameFirst-more}
use Rattle.at_journal.proofs.named_cuts.cuts_named.Goals as goal

pub loop-number-preserved : goal.loop-number-preserved
loop-number-preserved c =
    let before = c.loop-number.invariant in
    let so : NameFirst c.args.receipts.now c.loop-number.list.items c.loop-number.number =
    record { within = before.within; placed = before.placed; all = before.all } in
    let now : NameFirst c.args.receipts.now c.name_cut.new.list.items (c.loop-number.number + 1) =
    subst (λ (l : List CutAt). NameFirst c.args.receipts.now l (c.loop-number.number + 1)) (sym c.in_ok-name_cut.ensures)
    (NameFirst-more c.args.receipts.now c.loop-number.list.items c.loop-number.number c.index-receipts-number.result (omega (arith, c.loop-number-test.true)) so) in
    record { within = now.within; placed = now.placed; all = now.all }
