use Rattle.std.proofs.Common.{◌<◌, length, subst, sym, ◌∙◌, vec_capacity}
use Rattle.at_c.proofs.Prelude.{arc_value, IsCallOn, OwnCallerTerms, SharedTerms}
use Rattle.at_c.proofs.Kept.{IsCaller-called}
use Rattle.at_c.proofs.caller.Caller.call.Goals as goal

pub invariant_of-self : goal.invariant_of-self
invariant_of-self c =
    let inside = c.self.inside in
    let free = subst (λ (t : OwnCallerTerms). length t.receipts < t.room) (sym c.self.view_is) c.requires.room in
    let on = subst (λ (t : OwnCallerTerms). IsCallOn (length t.shared.ledger.book.accounts) c.args.call) (sym c.self.view_is) c.requires.accounts in
    let held : SharedTerms = record { ledger = c.behind-self.inside.ledger; names = c.behind-self.inside.names } in
    IsCaller-called (arc_value inside.shared) held inside.pass c.call-receipt.new.pass inside.receipts.items
    c.push_reserved.new.self.items c.args.call c.call-receipt.result (vec_capacity inside.receipts) (vec_capacity c.push_reserved.new.self)
    c.self.invariant (c.behind-self.view_is ∙ c.deref.ensures) c.call-receipt.ensures.made c.call-receipt.ensures.pass c.call-receipt.ensures.past free
    c.push_reserved.ensures.items c.push_reserved.ensures.capacity on
