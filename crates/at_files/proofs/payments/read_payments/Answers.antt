use Rattle.std.proofs.Common.{Err, ap, ◌∙◌}
use Rattle.at_files.proofs.PaymentsAccepted.{Pays-no_fault, Pays-payments_of}
use Rattle.at_files.proofs.payments.read_payments.Goals as goal

pub returns-in-Ok-clause-pays : goal.returns-in-Ok-clause-pays
returns-in-Ok-clause-pays c = Pays-payments_of _ _ _ _ _ c.requires.names c.in-Ok.ensures.ok.1

pub returns-in-Err-clause-accepts : goal.returns-in-Err-clause-accepts
returns-in-Err-clause-accepts c = λ calls pays.
    Pays-no_fault _ _ _ _ calls _ c.requires.names pays (λ bad same. c.read_calls.ensures.bad bad (c.in-Err.is ∙ ap Err same))
