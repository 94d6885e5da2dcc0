use Rattle.at_io.proofs.FileOf.{unread-position, is_some-position}
use Rattle.at_io.proofs.held_files.HeldFiles.choose.Goals as goal

pub returns-clause-found : goal.returns-clause-found
returns-clause-found c =
    rw
    (c.is_some.ensures, c.position_of-self-inside.ensures, c.as_slice.ensures.value, ← c.self.view_is)
    (is_some-position c.self.inside.files.items c.args.name.now)

pub returns-clause-rest : goal.returns-clause-rest
returns-clause-rest c =
    rw
    (c.position_of-self-inside.ensures, c.as_slice.ensures.value, ← c.self.view_is)
    (unread-position c.self.inside.files.items c.args.name.now)
