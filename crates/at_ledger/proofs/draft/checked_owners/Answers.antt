use Rattle.std.proofs.Common.{◌∙◌, sym, arith}
use Rattle.at_ledger.proofs.Prelude.{common_steps}
use Rattle.at_ledger.proofs.Owners.{owners_fault-drop_good, owners_fault-drop_bad, owners_fault-drop_all}
use Rattle.at_ledger.proofs.draft.checked_owners.Goals as goal

pub returns-in-Some-clause-bad : goal.returns-in-Some-clause-bad
returns-in-Some-clause-bad c =
    c.loop-owner.invariant.0
    ∙ owners_fault-drop_bad _ _ _ _ _ _ _ c.loop-owner-test.true (rw (← c.len.ensures.value) (sym c.in-Some.ensures))

pub loop-owner-preserved : goal.loop-owner-preserved
loop-owner-preserved c = (
  rw c.push.ensures.len
      (c.loop-owner.invariant.0
      ∙ owners_fault-drop_good _ _ _ _ _ _ c.loop-owner-test.true (rw (← c.len.ensures.value) (sym c.in_default.ensures))),
  grind (arith, common_steps),
)

pub returns-clause-good : goal.returns-clause-good
returns-clause-good c = c.loop-owner.invariant.0 ∙ owners_fault-drop_all _ _ _ _ _ _ c.loop-owner-test.false

pub returns-clause-ok : goal.returns-clause-ok
returns-clause-ok c = grind (arith, common_steps)

pub overflow_cast-owner : goal.overflow_cast-owner
overflow_cast-owner c = grind (arith, common_steps)

pub push-requires : goal.push-requires
push-requires c = grind (arith, common_steps)

pub overflow_add-least : goal.overflow_add-least
overflow_add-least c = grind (arith, common_steps)
