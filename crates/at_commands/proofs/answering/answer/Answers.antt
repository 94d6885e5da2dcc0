use Rattle.std.proofs.Common.{◌∙◌, refl}
use Rattle.at_commands.proofs.Laws.Commands.{Answered-done_kept, Answered-write_fault, Does-KeepsNone, usage-done, usage-write_fault}
use Rattle.at_commands.proofs.Laws.MayRefuse.{later-kept}
use Rattle.at_commands.proofs.answering.answer.Goals as goal

pub returns-in-None : goal.returns-in-None
returns-in-None g c = record {
  files = record { as_told = refl; files = refl };
  later = (later-kept _ _ refl, later-kept _ _ refl);
  as_told = refl;
  unread = λ none. refl;
  no_ledger = λ none. c.requires.kept;
  answered = rw c.in-None.is refl;
  done_kept = λ is. absurd (usage-done _ is);
  write_fault = λ is. absurd (usage-write_fault _ is);
  untouched = λ undone unwritten. (refl, c.requires.kept);
}

pub returns-in-Some : goal.returns-in-Some
returns-in-Some g c =
    let asks = c.in-Some.is in
    let does = c.answer_asked.ensures in
    record {
      files = does.keeps.files;
      later = (does.keeps.later, does.later);
      as_told = does.as_told;
      unread = λ unread. does.unread (rw asks at unread);
      no_ledger = λ none. Does-KeepsNone does (rw asks at none) c.requires.kept;
      answered = rw asks does.answered;
      done_kept = Answered-done_kept _ _ _ does.answered;
      write_fault = Answered-write_fault _ _ _ does.answered;
      untouched = λ undone unwritten. ((does.untouched undone unwritten).0, (does.untouched undone unwritten).1 ∙ c.requires.kept);
    }
