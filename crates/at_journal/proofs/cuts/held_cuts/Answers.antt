use Rattle.std.proofs.Common.{◌≡◌, ◌++◌, ◌-◌, [], arith, map, refl, replicate, subst, take, ◌∙◌}
use Rattle.at_journal.proofs.Prelude.{take-nil, option_copied, AreByPlace}
use Rattle.std.specs.Prelude.{None}
use Rattle.at_journal.proofs.CutLists.{AreByPlace-nones, AreHeld-by_place, receipt_cuts, record_views}
use Rattle.at_journal.proofs.cuts.held_cuts.Goals as goal

pub returns : goal.returns
returns c =
    let closing = c.args.closing.now in
    let total = c.args.total in
    let table = map option_copied c.put_all_views.new.cuts.items in
    let none_less : total - 0 ≡ total = omega arith in
    let none : AreByPlace total [] (map option_copied c.resize.new.self.items) =
    AreByPlace-nones option_copied total c.resize.new.self.items refl
    (c.in_ok-resize.ensures.items ∙ (λ t. take total (c.new-cuts.ensures.items t) ++ replicate (total - c.new-cuts.ensures.len t) None)
    ∙ (λ t. take-nil total t ++ replicate (none_less t) None)) in
    AreHeld-by_place closing table
    (subst (λ n. AreByPlace n (receipt_cuts closing ++ record_views closing) table) c.requires.total
    (c.put_all_views.ensures total (receipt_cuts closing) (c.put_all_cuts.ensures total [] none)))
