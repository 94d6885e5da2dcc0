use Rattle.at_commands.proofs.playing.closed_after.Goals as goal

pub returns : goal.returns
returns g c = rw c.in_ok-opened.ensures.book at c.closed_on.ensures
