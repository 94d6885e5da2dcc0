use Rattle.std.proofs.Common.{sym, ◌∙◌, arith}
use Rattle.at_files.proofs.Prelude.{common_steps}
use Rattle.at_files.proofs.NameSetLaws.{position_of-long, position_of-map}
use Rattle.at_files.proofs.name_set.NameSet.position.Goals as goal

pub returns-in-Some-clause-position : goal.returns-in-Some-clause-position
returns-in-Some-clause-position c = c.get_index_of.ensures.index ∙ rw (c.in-Some.ensures.some, ← c.self.view_is) (sym (position_of-map (λ name. name.items) c.self.inside.names.keys c.args.text.now))

pub returns-in-None-clause-position : goal.returns-in-None-clause-position
returns-in-None-clause-position c = rw (← c.self.view_is) (sym (position_of-long _ c.args.text.now c.self.invariant c.in-None.ensures.none))

pub returns-in-Some-clause-within : goal.returns-in-Some-clause-within
returns-in-Some-clause-within c = grind (arith, common_steps)
