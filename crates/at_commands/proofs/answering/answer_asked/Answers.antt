use Rattle.at_commands.proofs.answering.answer_asked.Goals as goal

pub returns-in-Files : goal.returns-in-Files
returns-in-Files g c = rw c.in-Files.is c.answer_form.ensures

pub returns-in-Further : goal.returns-in-Further
returns-in-Further g c = rw c.in-Further.is c.answer_further.ensures

pub returns-in-Make : goal.returns-in-Make
returns-in-Make g c = rw c.in-Make.is c.answer_make.ensures

pub returns-in-Agree : goal.returns-in-Agree
returns-in-Agree g c = rw (c.in-Agree.is, ← c.as_slice.ensures.value) c.answer_agree.ensures
