use Rattle.std.proofs.Common.{ℕ, ◌≤◌, ◌++◌, List, ap, codes, length, map, refl, ◌∙◌}
use Rattle.at_follow.proofs.Prelude.{EntryFault, Words, entry_fault_words, lines_text, take_all}
use Rattle.at_follow.proofs.TextLaws.{section-map}
use Rattle.at_follow.proofs.printing.push_faults.Goals as goal

pub returns : goal.returns
returns c =
    let f : EntryFault → Words = entry_fault_words c.args.book.now c.args.names.now in
    let faults : List EntryFault = c.args.faults.now in
    let all : length faults ≤ c.loop-fault.fault-index = c.loop-fault-test.false in
    c.loop-fault.invariant
    ∙ (ap (λ (l : List EntryFault). c.push_numbered.new.out.items ++ lines_text (map f l)) (take_all c.loop-fault.fault-index faults all)
    ∙ (ap (λ (l : List ℕ). l ++ lines_text (map f faults)) c.in_ok-push_numbered.ensures.text ∙ section-map (codes "passed") c.args.out.now.items f faults (length faults) refl))
