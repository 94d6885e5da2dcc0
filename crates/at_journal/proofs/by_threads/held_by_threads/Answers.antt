use Rattle.std.proofs.Common.{◌≡◌, ◌++◌, ◌-◌, [], List, Vec, arith, length, map, refl, replicate, subst, sym, take, ap, ◌∙◌, Result, Ok}
use Rattle.at_journal.proofs.Prelude.{take-nil, length-map, Global, option_copied, AllocError, receipts_of, AreByPlace, AreNamed, NameCuts, CutAt}
use Rattle.std.specs.Prelude.{None}
use Rattle.at_journal.proofs.CutLists.{AreByPlace-nones, AreHeld-views_first, receipt_cuts, record_views}
use Rattle.at_journal.proofs.KeyedByThreads.{done-at}
use Rattle.at_journal.proofs.by_threads.held_by_threads.Goals as goal

pub put_lists-requires : goal.put_lists-requires
put_lists-requires g c =
    let closing = c.args.closing.now in
    let made = c.in_ok-made.made.items in
    let lists = c.in_ok-lists.lists.items in
    let long : length made ≡ length closing.receipts = omega (arith, c.in_ok-made.ensures.len, c.in_ok-made.made.ok, c.processes.ensures.receipts) in
    let of_lists : AreNamed closing (map (λ v. v.items) lists) = record {
      sized =
          length-map lists (λ v. v.items)
          ∙ (sym (length-map {A = Vec CutAt Global} {B = Result (Vec CutAt Global) AllocError} lists Ok)
          ∙ (sym (ap (length {A = Result (Vec CutAt Global) AllocError}) c.in_ok-lists.ensures) ∙ long));
      each = λ p known.
          done-at made lists (NameCuts (receipts_of closing p)) p c.in_ok-lists.ensures (omega (arith, known, long))
          (λ d. (c.in_ok-made.ensures.each p d (omega (arith, known, c.processes.ensures.receipts))).1.met);
    } in
    subst (λ (l : List (Vec CutAt Global)). AreNamed closing (map (λ v. v.items) l)) (sym c.as_slice.ensures.value) of_lists

pub returns : goal.returns
returns g c =
    let closing = c.args.closing.now in
    let total = c.args.total in
    let table = map option_copied c.put_lists.new.cuts.items in
    let none_less : total - 0 ≡ total = omega arith in
    let none : AreByPlace total [] (map option_copied c.resize.new.self.items) =
    AreByPlace-nones option_copied total c.resize.new.self.items refl
    (c.in_ok-resize.ensures.items ∙ (λ t. take total (c.new-cuts.ensures.items t) ++ replicate (total - c.new-cuts.ensures.len t) None)
    ∙ (λ t. take-nil total t ++ replicate (none_less t) None)) in
    AreHeld-views_first closing table
    (subst (λ n. AreByPlace n (record_views closing ++ receipt_cuts closing) table) c.requires.total
    (c.put_lists.ensures total (record_views closing) (c.put_all_views.ensures total [] none)))
