use Rattle.std.proofs.Common.{sym, ◌∙◌, Err, ap, arith}
use Rattle.at_files.proofs.Prelude.{common_steps}
use Rattle.at_files.proofs.BookWalk.{AreNamesOf-limits_of, limits_of-empty}
use Rattle.at_files.proofs.Faults.{Bad-same}
use Rattle.at_files.proofs.book.read_limits.Goals as goal

pub returns-in-Ok-limits_of-clause-names : goal.returns-in-Ok-limits_of-clause-names
returns-in-Ok-limits_of-clause-names c = AreNamesOf-limits_of c.args.version _ _ c.in-Ok-limits_of.begun c.requires (sym c.limits_of.ensures ∙ c.in-Ok-limits_of.is)

pub returns-in-Err-clause-bad : goal.returns-in-Err-clause-bad
returns-in-Err-clause-bad c = λ b same.
    rw (c.in-Ok.ensures.ok, c.if-not-found.false, sym c.limits_of.ensures ∙ c.in-Err.is) (ap Err (Bad-same _ b (ap Err (sym c.bad_book-in-Err.ensures) ∙ same)))

pub returns-in-Ok-limits_of-clause-bad : goal.returns-in-Ok-limits_of-clause-bad
returns-in-Ok-limits_of-clause-bad c = grind (arith, common_steps)

pub returns-in-Ok-limits_of-clause-ok : goal.returns-in-Ok-limits_of-clause-ok
returns-in-Ok-limits_of-clause-ok c = grind (arith, common_steps)

pub returns-then-not-found-clause-bad : goal.returns-then-not-found-clause-bad
returns-then-not-found-clause-bad c = grind (arith, common_steps)

pub returns-in-Ok-limits_of-clause-empty : goal.returns-in-Ok-limits_of-clause-empty
returns-in-Ok-limits_of-clause-empty c = limits_of-empty c.args.version c.args.processes _ c.in-Ok-limits_of.begun (sym c.limits_of.ensures ∙ c.in-Ok-limits_of.is)
