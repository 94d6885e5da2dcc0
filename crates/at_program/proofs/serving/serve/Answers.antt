use Rattle.at_program.proofs.Prelude.{wanted_of, words_of, Leaves-formless}
use Rattle.at_program.proofs.serving.serve.Goals as goal

pub returns-clause-files : goal.returns-clause-files
returns-clause-files g c = c.answer-status.ensures.files

pub returns-clause-later : goal.returns-clause-later
returns-clause-later g c = (c.answer-status.ensures.later.0, c.answer-status.ensures.later.1, c.tell_unless_done.ensures.later)

pub returns-clause-as_told : goal.returns-clause-as_told
returns-clause-as_told g c = (c.answer-status.ensures.as_told, c.tell_unless_done.ensures.as_told)

pub returns-clause-words : goal.returns-clause-words
returns-clause-words g c = Leaves-formless (wanted_of (words_of c.args.words.now)) _ _ (rw c.asked_by-asked.ensures.asked at c.answer-status.ensures.answered)

pub returns-clause-answered : goal.returns-clause-answered
returns-clause-answered g c = rw c.asked_by-asked.ensures.asked at c.answer-status.ensures.answered

pub returns-clause-unread : goal.returns-clause-unread
returns-clause-unread g c = rw c.asked_by-asked.ensures.asked at c.answer-status.ensures.unread

pub returns-clause-no_ledger : goal.returns-clause-no_ledger
returns-clause-no_ledger g c = rw c.asked_by-asked.ensures.asked at c.answer-status.ensures.no_ledger

pub returns-clause-done_kept : goal.returns-clause-done_kept
returns-clause-done_kept g c = c.answer-status.ensures.done_kept

pub returns-clause-write_fault : goal.returns-clause-write_fault
returns-clause-write_fault g c = c.answer-status.ensures.write_fault

pub returns-clause-untouched : goal.returns-clause-untouched
returns-clause-untouched g c = c.answer-status.ensures.untouched

pub returns-clause-silent : goal.returns-clause-silent
returns-clause-silent g c done = c.tell_unless_done.ensures.silent done

pub returns-clause-told : goal.returns-clause-told
returns-clause-told g c undone told = rw c.asked_by-asked.ensures.asked at (c.tell_unless_done.ensures.told undone told)
