use Rattle.std.proofs.Common.{refl, sym, ◌∙◌, arith}
use Rattle.at_files.proofs.Prelude.{common_steps}
use Rattle.at_files.proofs.calls.named_call_of.Goals as goal

pub returns-then-has_shape : goal.returns-then-has_shape
returns-then-has_shape c =
    c.named_transfer.ensures
    ∙ rw (
      c.find.ensures.position,
      c.find-then-has_shape.ensures.position,
      c.number_at.ensures,
      c.field_of.ensures,
      c.field_of-then-has_shape.ensures,
      sym c.has_shape.ensures ∙ c.if-has_shape.true,
    ) refl

pub returns-then-has_shape-2 : goal.returns-then-has_shape-2
returns-then-has_shape-2 c =
    c.named_read.ensures
    ∙ rw (
      c.find-then-has_shape-2.ensures.position,
      c.field_of-then-has_shape-2.ensures,
      sym c.has_shape.ensures ∙ c.if-has_shape.false,
      sym c.has_shape-else-has_shape.ensures ∙ c.if-has_shape-2.true,
    ) refl

pub returns-then-is_pay : goal.returns-then-is_pay
returns-then-is_pay c = grind (arith, common_steps)

pub returns-else-is_pay : goal.returns-else-is_pay
returns-else-is_pay c = grind (arith, common_steps)
