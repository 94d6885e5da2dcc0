use Rattle.at_commands.proofs.answering.answer_further.Goals as goal

pub returns-in-Replay : goal.returns-in-Replay
returns-in-Replay g c = rw (c.in-Replay.is, ← c.beside.ensures) c.answer_command.ensures

pub returns-in-Trace : goal.returns-in-Trace
returns-in-Trace g c = rw (c.in-Trace.is, ← c.beside-in-Trace.ensures) c.answer_command-in-Trace.ensures

pub returns-in-Show : goal.returns-in-Show
returns-in-Show g c = rw (c.in-Show.is, ← c.beside-in-Show.ensures) c.answer_command-in-Show.ensures

pub returns-in-Verify : goal.returns-in-Verify
returns-in-Verify g c = rw (c.in-Verify.is, ← c.beside-in-Verify.ensures) c.answer_command-in-Verify.ensures

pub returns-in-Deliver : goal.returns-in-Deliver
returns-in-Deliver g c = rw (c.in-Deliver.is, ← c.beside-in-Deliver.ensures) c.answer_command-in-Deliver.ensures
