use Rattle.std.proofs.Common.{ℕ, List, get_or, arith}
use Rattle.std.proofs.lemmas.Grind.{common_steps}
use Rattle.at_logs.specs.Snapshot.{HasCreditBytes}
use Rattle.at_logs.proofs.Prelude.{Credit, get_or_default}
use Rattle.at_logs.proofs.SavingLaws.{fits_more}
use Rattle.at_logs.proofs.saving.put_credits.Goals as goal

pub loop-credit-preserved : goal.loop-credit-preserved
loop-credit-preserved c =
    let xs : List Credit = c.args.credits.now in
    let i : ℕ = c.loop-credit.credit-index in
    let d : Credit = record { account = 0; log = 0; number = 0; amount = 0 } in
    record {
      spelled = grind (arith, common_steps);
      fits = fits_more HasCreditBytes xs i (get_or xs i d) c.loop-credit-test.true (get_or_default xs i d (get_or xs i d) c.loop-credit-test.true) c.in_ok-put_credit.ensures.fits
          c.loop-credit.invariant.fits;
    }
