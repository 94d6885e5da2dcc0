use Rattle.std.proofs.Common.{◌∙◌, arith}
use Rattle.at_files.proofs.Prelude.{common_steps}
use Rattle.at_files.proofs.NameLaws.{decimal-AreNames}
use Rattle.at_files.proofs.names.Names.account.Goals as goal

pub returns-clause-plain : goal.returns-clause-plain
returns-clause-plain c = λ first.
    c.name.ensures
    ∙ decimal-AreNames c.self.inside.version c.self.inside.accounts c.args.account c.self.invariant.accounts (rw (← c.self.view_is) at first)
    (rw (← c.self.view_is) at c.requires)

pub name-requires : goal.name-requires
name-requires c = grind (arith, common_steps)
