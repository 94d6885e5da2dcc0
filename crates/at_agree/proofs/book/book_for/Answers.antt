use Rattle.std.proofs.Common.{◌≡◌, ap, sym, ◌∙◌}
use Rattle.std.specs.Prelude.{Err, Some}
use Rattle.at_agree.proofs.Prelude.{book_fault}
use Rattle.at_agree.proofs.CouncilDraft.{book_fault-council}
use Rattle.at_agree.proofs.book.book_for.Goals as goal

pub unreachable-requires : goal.unreachable-requires
unreachable-requires c =
    let fault : book_fault c.in_ok-draft.draft ≡ Some c.in-Err-Bad.field-0-0 =
    c.new.ensures.bad c.in-Err-Bad.field-0-0 (c.in-Err-Bad.is ∙ ap Err c.in-Err-Bad.field-0-is) in
    let none = book_fault-council c.args.size c.in_ok-draft.draft c.requires c.in_ok-draft.ensures in
    cc (sym none ∙ fault)
