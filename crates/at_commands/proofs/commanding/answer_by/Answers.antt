use Rattle.at_commands.proofs.Prelude.{Printed}
use Rattle.at_commands.proofs.Laws.Commands.{Answered-Ends, Ends-refusal}
use Rattle.at_commands.proofs.commanding.answer_by.Goals as goal

pub returns : goal.returns
returns g c =
    let made = c.command_text-made.result in
    let does = c.command_text-made.ensures in
    let ends = c.end_keeping.ensures in
    record {
      keeps = does.keeps;
      unread = does.unread;
      later = ends.later;
      as_told = ends.as_told;
      answered = Answered-Ends _ does.lawful _ (λ (p : Printed). p.text) (λ (p : Printed). p.closed) made _ ends.ends ends.kept does.prints does.err;
      untouched = λ undone unwritten. Ends-refusal (λ (p : Printed). p.text) _ made _ ends.ends ends.untouched undone unwritten;
    }
