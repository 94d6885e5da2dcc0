use Rattle.std.proofs.Common.{ℕ, sym, ap, subst, ◌∙◌}
use Rattle.at_calling.proofs.Prelude.{Knowledge, starting_to_ask, MayAskFor, asked_for}
use Rattle.at_calling.proofs.starting.asking_at.Goals as goal

pub start-requires : goal.start-requires
start-requires c =
    let v : Knowledge = c.args.seat.now.knows in
    subst (λ n. (slot : ℕ) × MayAskFor v.book v c.args.account slot (asked_for c.args.targets n)) (sym c.sum.ensures) c.requires.may

pub returns : goal.returns
returns c = c.start.ensures ∙ ap (starting_to_ask c.args.seat.now.knows c.args.account c.args.targets) c.sum.ensures
