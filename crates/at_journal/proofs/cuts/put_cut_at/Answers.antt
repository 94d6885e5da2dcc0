use Rattle.std.proofs.Common.{[], map, subst, sym}
use Rattle.at_journal.proofs.Prelude.{cons_option, option_copied, cut_at, AreAdded}
use Rattle.at_journal.proofs.cuts.put_cut_at.Goals as goal

pub returns-in-Cut : goal.returns-in-Cut
returns-in-Cut c =
    subst (λ at. AreAdded (cons_option (cut_at at) []) (map option_copied c.args.cuts.now.items) (map option_copied c.put_cut.new.cuts.items))
    (sym c.in-Cut.is) c.put_cut.ensures
