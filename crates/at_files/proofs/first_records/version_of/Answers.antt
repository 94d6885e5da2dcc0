use Rattle.std.proofs.Common.{refl, sym, ◌∙◌}
use Rattle.at_files.proofs.first_records.version_of.Goals as goal

pub returns-then-not-has_shape : goal.returns-then-not-has_shape
returns-then-not-has_shape c = rw (sym c.has_shape.ensures ∙ c.if-not-has_shape.true) refl

pub returns-then-is_word : goal.returns-then-is_word
returns-then-is_word c =
    rw (sym c.has_shape.ensures ∙ c.if-not-has_shape.false, rw c.field_of.ensures at (sym c.is_word.ensures ∙ c.if-is_word.true)) refl

pub returns-then-is_word-2 : goal.returns-then-is_word-2
returns-then-is_word-2 c =
    rw (
      sym c.has_shape.ensures ∙ c.if-not-has_shape.false,
      rw c.field_of.ensures at (sym c.is_word.ensures ∙ c.if-is_word.false),
      rw c.field_of-else-is_word.ensures at (sym c.is_word-else-is_word.ensures ∙ c.if-is_word-2.true),
    ) refl

pub returns-else-is_word-2 : goal.returns-else-is_word-2
returns-else-is_word-2 c =
    rw (
      sym c.has_shape.ensures ∙ c.if-not-has_shape.false,
      rw c.field_of.ensures at (sym c.is_word.ensures ∙ c.if-is_word.false),
      rw c.field_of-else-is_word.ensures at (sym c.is_word-else-is_word.ensures ∙ c.if-is_word-2.false),
    ) refl
