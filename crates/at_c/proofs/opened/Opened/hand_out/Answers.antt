use Rattle.std.proofs.Common.{vec_capacity}
use Rattle.at_c.proofs.Prelude.{arc_value, contents_of}
use Rattle.at_c.proofs.Kept.{IsOpened-handed}
use Rattle.at_c.proofs.opened.Opened.hand_out.Goals as goal

pub invariant_of-self-in-Some : goal.invariant_of-self-in-Some
invariant_of-self-in-Some c =
    let inside = c.self.inside in
    IsOpened-handed (arc_value inside.shared) inside.handed inside.waiting.items c.pop_front.new.self.items inside.passes.items
    (contents_of inside.receipts.items) (vec_capacity inside.passes) (vec_capacity inside.receipts) c.in-Some.pass c.self.invariant
    c.in-Some.ensures.items
