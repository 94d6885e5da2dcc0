use Rattle.std.proofs.Common.{◌∙◌, vec_capacity}
use Rattle.at_c.proofs.Prelude.{arc_value, SharedTerms}
use Rattle.at_c.proofs.Kept.{IsCaller-looked}
use Rattle.at_c.proofs.caller.Caller.look.Goals as goal

pub invariant_of-self : goal.invariant_of-self
invariant_of-self c =
    let inside = c.self.inside in
    let held : SharedTerms = record { ledger = c.behind-self.inside.ledger; names = c.behind-self.inside.names } in
    IsCaller-looked (arc_value inside.shared) held inside.pass c.balances.new.pass c.balances.new.out inside.receipts.items
    (vec_capacity inside.receipts) c.self.invariant (c.behind-self.view_is ∙ c.deref.ensures) c.balances.ensures.seen
    c.balances.ensures.pass c.balances.ensures.past
