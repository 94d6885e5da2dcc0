use Rattle.std.proofs.Common.{◌∙◌, arith}
use Rattle.at_board.proofs.Prelude.{common_steps, get_or_read}
use Rattle.at_board.proofs.layout.Layout.first_slot.Goals as goal

pub returns : goal.returns
returns c =
    let before = c.requires.layout.before in
    let a = c.args.account in
    let within = c.requires.place in
    get_or_read c.args.self.now.slots_before.items a c.index.result.now (omega (arith, within, before.count)) c.index.ensures 0 ∙ before.each a within

pub index-requires : goal.index-requires
index-requires c = grind (arith, common_steps)
