use Rattle.std.proofs.Common.{sym, subst, arith}
use Rattle.at_board.proofs.Prelude.{common_steps, AreTargetsOn, targets_of}
use Rattle.at_board.proofs.WordLaws.Packed.{ArePacked-IsForm, AreTargetsOn-ArePacked}
use Rattle.at_board.proofs.words.record_word.Goals as goal

pub pack_targets-requires : goal.pack_targets-requires
pack_targets-requires c =
    subst (AreTargetsOn 1024) (sym c.targets-targets.ensures)
    (AreTargetsOn-ArePacked (targets_of c.args.entry.now) (ArePacked-IsForm c.args.entry.now c.requires.form))

pub returns-in-0 : goal.returns-in-0
returns-in-0 c = grind (arith, common_steps)

pub returns-in-2 : goal.returns-in-2
returns-in-2 c = grind (arith, common_steps)
