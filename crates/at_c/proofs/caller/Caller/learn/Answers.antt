use Rattle.std.proofs.Common.{vec_capacity}
use Rattle.at_c.proofs.Prelude.{arc_value}
use Rattle.at_c.proofs.Kept.{IsCaller-learned}
use Rattle.at_c.proofs.caller.Caller.learn.Goals as goal

pub invariant_of-self : goal.invariant_of-self
invariant_of-self c =
    let inside = c.self.inside in
    IsCaller-learned (arc_value inside.shared) c.deref.result.now c.args.process inside.pass c.learn.new.pass inside.receipts.items
    (vec_capacity inside.receipts) c.learn.result c.self.invariant c.deref.ensures c.learn.ensures
