use Rattle.std.proofs.Common.{ℕ, ◌≤◌, ◌++◌, List, ap, codes, length, map, refl, ◌∙◌}
use Rattle.at_follow.proofs.Prelude.{Told, Words, lines_text, take_all, told_words}
use Rattle.at_follow.proofs.TextLaws.{section-map}
use Rattle.at_follow.proofs.printing.push_journal.Goals as goal

pub returns : goal.returns
returns c =
    let f : Told → Words = told_words c.args.book.now c.args.names.now in
    let told : List Told = c.args.told.now in
    let all : length told ≤ c.loop-message.message-index = c.loop-message-test.false in
    c.loop-message.invariant
    ∙ (ap (λ (l : List Told). c.push_numbered.new.out.items ++ lines_text (map f l)) (take_all c.loop-message.message-index told all)
    ∙ (ap (λ (l : List ℕ). l ++ lines_text (map f told)) c.in_ok-push_numbered.ensures.text ∙ section-map (codes "journal") c.args.out.now.items f told (length told) refl))
