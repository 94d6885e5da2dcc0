use Rattle.std.proofs.Common.{Ok, Err, refl, sym, ◌∙◌, ap, arith}
use Rattle.at_files.proofs.Prelude.{common_steps, not-false, not-true}
use Rattle.at_files.proofs.Faults.{Bad-same}
use Rattle.at_files.proofs.first_records.add_name.Goals as goal

pub returns-then-added-clause-ok : goal.returns-then-added-clause-ok
returns-then-added-clause-ok c =
    rw (sym c.is_name.ensures ∙ c.if-not-is_name.false, not-true _ (sym c.in-Ok.ensures.added ∙ c.if-added.true))
    (ap Ok (sym (c.in-Ok.ensures.names ∙ rw c.if-added.true refl)))

pub returns-else-added : goal.returns-else-added
returns-else-added c = record {
  ok = tt;
  bad = λ b same.
      rw (sym c.is_name.ensures ∙ c.if-not-is_name.false, not-false _ (sym c.in-Ok.ensures.added ∙ c.if-added.false))
      (ap Err (Bad-same _ b (ap Err (sym c.bad_book-else-added.ensures) ∙ same)));
}

pub returns-then-not-is_name-clause-bad : goal.returns-then-not-is_name-clause-bad
returns-then-not-is_name-clause-bad c = grind (arith, common_steps)

pub add-requires : goal.add-requires
add-requires c = grind (arith, common_steps)
