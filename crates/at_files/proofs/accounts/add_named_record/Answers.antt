use Rattle.std.proofs.Common.{◌∙◌, ◌+◌, arith}
use Rattle.at_files.proofs.Prelude.{common_steps}
use Rattle.at_files.proofs.Faults.{Err-same, at_line-stops, within_limits-bad}
use Rattle.at_files.proofs.accounts.add_named_record.Goals as goal

pub returns-in-Err-clause-bad : goal.returns-in-Err-clause-bad
returns-in-Err-clause-bad c = λ b same.
    rw (← c.begun.view_is) (at_line-stops (c.args.account + 4) _ _ b (rw c.field_of.ensures at (c.add_name.ensures.bad b (c.in-Err.is ∙ same))))

pub returns-in-Err-named_terms-clause-bad : goal.returns-in-Err-named_terms-clause-bad
returns-in-Err-named_terms-clause-bad c = λ b same.
    rw (
      ← c.begun.view_is,
      rw c.field_of.ensures at c.in_default.ensures.ok,
      ← (rw (← c.begun.view_is) at c.requires.account),
    ) (at_line-stops (c.args.account + 4) _ _ b (rw (c.number_at.ensures, c.field_of-2.ensures) at (c.named_terms.ensures.bad b (c.in-Err-named_terms.is ∙ Err-same _ _ same))))

pub returns-clause-bad : goal.returns-clause-bad
returns-clause-bad c = λ b same.
    rw (
      ← c.begun.view_is,
      rw c.field_of.ensures at c.in_default.ensures.ok,
      ← (rw (← c.begun.view_is) at c.requires.account),
      rw (c.number_at.ensures, c.field_of-2.ensures) at c.in-Ok.ensures.ok,
    ) (within_limits-bad (c.args.account + 4) _ _ _ b (rw c.deref.ensures.value at (c.add_terms.ensures.bad b same)))

pub returns-clause-ok : goal.returns-clause-ok
returns-clause-ok c = grind (arith, common_steps)

pub add_terms-requires : goal.add_terms-requires
add_terms-requires c = grind (arith, common_steps)
