use Rattle.std.proofs.Common.{◌≡◌, ◌∙◌, ap, subst, sym}
use Rattle.at_stepper.proofs.Prelude.{run_in, stepper_terms, StepperTerms, TurnsOne, Progress}
use Rattle.at_stepper.proofs.stepper.Stepper.turn.Goals as goal

pub returns : goal.returns
returns c =
    let old_is : stepper_terms c.in-Running.run' ≡ c.args.self.now = sym (ap (λ (p : Progress). stepper_terms (run_in p)) c.in-Running.is) ∙ c.self.view_is in
    record {
      turned = subst (λ (s : StepperTerms). TurnsOne c.args.process c.turn.result s (stepper_terms c.turn.new.self)) old_is c.turn.ensures.turned;
    }
