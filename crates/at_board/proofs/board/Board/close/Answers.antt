use Rattle.std.proofs.Common.{sym, ap, subst, ◌∙◌, arith}
use Rattle.at_board.proofs.Prelude.{common_steps, slots_items, BookTerms, BoardTerms}
use Rattle.at_board.proofs.EndLaws.Closed.{IsEnd-Final, IsLast}
use Rattle.at_board.proofs.StepLaws.Note.{word_count-some}
use Rattle.at_board.proofs.board.Board.close.Goals as goal

pub gather-last-requires-clause-words : goal.gather-last-requires-clause-words
gather-last-requires-clause-words c = omega (arith, c.self.invariant.1, word_count-some c.self.inside.layout.book c.self.invariant.2)

pub returns-clause-end : goal.returns-clause-end
returns-clause-end c =
    let b : BookTerms = c.self.inside.layout.book in
    let words = slots_items c.close_with.result.words in
    let slots = slots_items c.close_with.result.slots in
    let all = c.requires.count ∙ sym (ap (λ (t : BoardTerms). t.book.processes) c.self.view_is) in
    let last : IsLast b c.gather-last.result.id c.gather-last.result.me.0 words slots =
    subst (λ (k : BookTerms). IsLast k c.gather-last.result.id c.gather-last.result.me.0 words slots) c.self.invariant.0 c.close_with.ensures.values.2 in
    IsEnd-Final b words slots c.gather-last.result.id c.gather-last.result.me.0 c.args.seats.items c.self.invariant.2 c.gather-last.ensures.seats all last

pub gather-last-requires-clause-seats : goal.gather-last-requires-clause-seats
gather-last-requires-clause-seats c = grind (arith, common_steps)

pub returns-clause-book : goal.returns-clause-book
returns-clause-book c = grind (arith, common_steps)

pub invariant_of-result : goal.invariant_of-result
invariant_of-result c = grind (arith, common_steps)
