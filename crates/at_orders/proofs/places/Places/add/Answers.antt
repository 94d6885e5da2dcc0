use Rattle.at_orders.proofs.Prelude.{common_steps}
use Rattle.std.proofs.Common.{not, ap, ◌∙◌, arith}
use Rattle.at_orders.proofs.Placing.{has_place-some}
use Rattle.at_orders.proofs.places.Places.add.Goals as goal

pub returns-else-is_none-clause-named : goal.returns-else-is_none-clause-named
returns-else-is_none-clause-named c =
    has_place-some c.args.self.now.of.items c.args.account c.index.result.now c.requires.account c.index.ensures (c.is_none.ensures ∙ ap not c.if-is_none.false)

pub returns-in_ok-push-clause-keeps : goal.returns-in_ok-push-clause-keeps
returns-in_ok-push-clause-keeps c = grind (arith, common_steps)

pub returns-in_ok-push-clause-named : goal.returns-in_ok-push-clause-named
returns-in_ok-push-clause-named c = grind (arith, common_steps)

pub index_mut-requires : goal.index_mut-requires
index_mut-requires c = grind (arith, common_steps)

pub returns-else-is_none-clause-places : goal.returns-else-is_none-clause-places
returns-else-is_none-clause-places c = grind (arith, common_steps)
