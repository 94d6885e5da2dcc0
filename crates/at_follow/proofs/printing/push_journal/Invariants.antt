use Rattle.std.proofs.Common.{◌≡◌, ◌++◌, map, take}
use Rattle.at_follow.proofs.Prelude.{lines_text, told_words}
use Rattle.at_follow.proofs.printing.push_journal.Given as goal

abbrev pub invariant-loop-message : goal.invariant-loop-message
invariant-loop-message l =
    l.out.items
    ≡ l.initial.out.items ++ lines_text (map (told_words l.book l.names) (take l.message-index l.told))
