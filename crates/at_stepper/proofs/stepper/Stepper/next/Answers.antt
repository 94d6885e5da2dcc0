use Rattle.std.proofs.Common.{◌≡◌, ◌∙◌, ap, subst, sym}
use Rattle.at_stepper.proofs.Prelude.{run_in, stepper_terms, IsNextStep, StepperTerms, Progress}
use Rattle.at_stepper.proofs.stepper.Stepper.next.Goals as goal

pub returns : goal.returns
returns c =
    let now_is : stepper_terms c.in-Running.run' ≡ c.args.self.now = sym (ap (λ (p : Progress). stepper_terms (run_in p)) c.in-Running.is) ∙ c.self.view_is in
    subst (λ (s : StepperTerms). IsNextStep c.args.process s c.next.result) now_is c.next.ensures
