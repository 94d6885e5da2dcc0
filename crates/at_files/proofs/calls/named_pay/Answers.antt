use Rattle.std.proofs.Common.{refl, sym, ◌∙◌}
use Rattle.at_files.proofs.calls.named_pay.Goals as goal

pub returns-then-not-has_amounts : goal.returns-then-not-has_amounts
returns-then-not-has_amounts c = rw (sym c.has_amounts.ensures ∙ c.if-not-has_amounts.true) refl

pub returns-in_default : goal.returns-in_default
returns-in_default c = rw (sym (rw c.field_of.ensures at c.find.ensures.position) ∙ c.in_default.is, sym c.has_amounts.ensures ∙ c.if-not-has_amounts.false) refl

pub returns-in_default-targets_spelled : goal.returns-in_default-targets_spelled
returns-in_default-targets_spelled c =
    rw (
      sym (rw c.field_of.ensures at c.find.ensures.position) ∙ c.in-Some.is,
      sym c.has_amounts.ensures ∙ c.if-not-has_amounts.false,
      sym c.targets_spelled.ensures ∙ c.in_default-targets_spelled.is,
    ) refl

pub returns : goal.returns
returns c =
    rw (
      sym (rw c.field_of.ensures at c.find.ensures.position) ∙ c.in-Some.is,
      sym c.has_amounts.ensures ∙ c.if-not-has_amounts.false,
      sym c.targets_spelled.ensures ∙ c.in-Some-targets_spelled.is,
    ) refl
