use Rattle.std.proofs.Common.{not, sym, ap, ◌∙◌, arith}
use Rattle.at_files.proofs.Prelude.{common_steps}
use Rattle.at_files.proofs.NameSetLaws.{IsNameSet-add, insert_key-map, has_name-map}
use Rattle.at_files.proofs.name_set.NameSet.add.Goals as goal

pub invariant_of-self-2 : goal.invariant_of-self-2
invariant_of-self-2 c =
    rw (c.in-Ok.ensures.keys, insert_key-map (λ name. name.items) c.self.inside.names.keys c.in-Some.name c.args.text.now c.in-Some.ensures.some)
    (IsNameSet-add _ c.args.text.now c.self.invariant c.requires)

pub returns-clause-added : goal.returns-clause-added
returns-clause-added c =
    c.in-Ok.ensures.added ∙ rw (c.in-Some.ensures.some, ← c.self.view_is) (ap not (sym (has_name-map (λ name. name.items) c.self.inside.names.keys c.args.text.now)))

pub invariant_of-self : goal.invariant_of-self
invariant_of-self c = grind (arith, common_steps)

pub returns-clause-names : goal.returns-clause-names
returns-clause-names c = grind (arith, common_steps)
