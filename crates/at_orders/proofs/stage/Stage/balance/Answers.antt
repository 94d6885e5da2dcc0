use Rattle.std.proofs.Common.{sym, ◌∙◌, arith}
use Rattle.at_orders.proofs.Prelude.{get_or_default_zero}
use Rattle.at_orders.proofs.stage.Stage.balance.Goals as goal

pub returns : goal.returns
returns c l has =
    let sized = c.requires.standing.balances in
    let inside = c.place.ensures.within in
    c.index.ensures ∙ (get_or_default_zero c.args.self.now.balances.items c.place.result c.index.result.now (omega arith)
    ∙ sym (has.kept.each c.args.account c.place.result c.place.ensures.place))
