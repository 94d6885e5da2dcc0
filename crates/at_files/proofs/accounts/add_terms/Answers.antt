use Rattle.std.proofs.Common.{Err, ap, sym, ◌∙◌}
use Rattle.at_files.proofs.Faults.{Bad-same}
use Rattle.at_files.proofs.accounts.add_terms.Goals as goal

pub returns-in-Err-Bad : goal.returns-in-Err-Bad
returns-in-Err-Bad c = record {
  ok = tt;
  bad = λ b same.
      rw (c.add.ensures.bad c.in-Err-Bad.fault (c.in-Err-Bad.is ∙ ap Err c.in-Err-Bad.field-0-is)) (ap Err (Bad-same _ b (ap Err (sym c.bad_book.ensures) ∙ same)));
}
