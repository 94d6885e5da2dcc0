use Rattle.std.proofs.Common.{sym, ◌∙◌}
use Rattle.at_files.proofs.NameLaws.{position_of-None, slice_get-position_of}
use Rattle.at_files.proofs.names.Names.find.Goals as goal

pub returns-in-Some-clause-found : goal.returns-in-Some-clause-found
returns-in-Some-clause-found c = rw (← c.self.view_is) (slice_get-position_of _ c.args.name.now c.in-Some.position (sym c.position.ensures.position ∙ c.in-Some.is))

pub returns-in-None-clause-none : goal.returns-in-None-clause-none
returns-in-None-clause-none c = rw (← c.self.view_is) (position_of-None _ c.args.name.now (sym c.position.ensures.position ∙ c.in-None.is))

pub returns-in-Some-clause-position : goal.returns-in-Some-clause-position
returns-in-Some-clause-position c = rw (← c.self.view_is) (sym c.in-Some.is ∙ c.position.ensures.position)
