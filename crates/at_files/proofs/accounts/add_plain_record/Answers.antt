use Rattle.std.proofs.Common.{◌+◌, Err, ap, sym, ◌∙◌, arith}
use Rattle.at_files.proofs.Prelude.{common_steps, terms_with}
use Rattle.at_files.proofs.AccountLaws.{length-numbered, with_plain_record-built}
use Rattle.at_files.proofs.Faults.{Bad-same, within_limits-bad}
use Rattle.at_files.proofs.accounts.add_plain_record.Goals as goal

pub add-requires : goal.add-requires
add-requires c =
    rw c.field_of-2.ensures
    (length-numbered c.args.account _ _ _ _ c.requires.room (rw c.number_at.ensures at c.in-Ok-numbered_terms.ensures.ok))

pub returns-clause-ok : goal.returns-clause-ok
returns-clause-ok c =
    rw (← c.begun.view_is)
    (with_plain_record-built _ _ (terms_with c.in-Ok-numbered_terms.terms.0 c.in-Ok-numbered_terms.terms.1.items) _ _ c.in-Ok-add._added
    (rw (← c.begun.view_is) at c.requires.names) (rw (← c.begun.view_is) at c.requires.version)
    (rw (c.requires.account, c.number_at.ensures, c.number_at-2.ensures, c.in-Ok.ensures, c.field_of.ensures, ← c.begun.view_is) at c.in-Ok-numbered_terms.ensures.ok)
    (rw c.deref.ensures.value at c.in_default-add_terms.ensures.ok) (rw c.field_of-2.ensures at c.in-Ok-add.ensures.added) (rw c.field_of-2.ensures at c.in-Ok-add.ensures.names))

pub returns-in-Err-clause-bad : goal.returns-in-Err-clause-bad
returns-in-Err-clause-bad c = λ b same.
    rw (← c.requires.account, rw (c.number_at.ensures, c.number_at-2.ensures, c.in-Ok.ensures, c.field_of.ensures) at c.in-Err.ensures.bad)
    (ap Err (Bad-same _ b (ap Err (sym c.bad_book.ensures) ∙ same)))

pub returns-in-Err-add_terms-clause-bad : goal.returns-in-Err-add_terms-clause-bad
returns-in-Err-add_terms-clause-bad c = λ b same.
    rw (
      ← c.begun.view_is,
      ← (rw (← c.begun.view_is) at c.requires.account),
      rw (c.number_at.ensures, c.number_at-2.ensures, c.in-Ok.ensures, c.field_of.ensures) at c.in-Ok-numbered_terms.ensures.ok,
    ) (within_limits-bad (c.args.account + 4) _ _ _ b (rw c.deref.ensures.value at (c.add_terms.ensures.bad b (c.in-Err-add_terms.is ∙ same))))

pub returns-in_default-add-clause-bad : goal.returns-in_default-add-clause-bad
returns-in_default-add-clause-bad c = grind (arith, common_steps)

pub returns-clause-bad : goal.returns-clause-bad
returns-clause-bad c = grind (arith, common_steps)

pub overflow_add-account : goal.overflow_add-account
overflow_add-account c = grind (arith, common_steps)

pub add_terms-requires : goal.add_terms-requires
add_terms-requires c = grind (arith, common_steps)
