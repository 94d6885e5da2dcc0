use Rattle.std.proofs.Common.{refl, sym, ◌∙◌}
use Rattle.at_files.proofs.deliveries.DeliveryFormRecordForm.item_of.Goals as goal

pub returns : goal.returns
returns c =
    c.delivery_to.ensures
    ∙ rw (
      sym c.len.ensures ∙ c.if-len-ne3.false,
      sym c.number_at-node.ensures ∙ c.in-Some-Some-Some.is-0,
      sym c.number_at-sender.ensures ∙ c.in-Some-Some-Some.is-1,
      sym c.number_at-number.ensures ∙ c.in-Some-Some-Some.is-2,
    ) refl

pub returns-in_default : goal.returns-in_default
returns-in_default c =
    rw (
      sym c.len.ensures ∙ c.if-len-ne3.false,
      sym c.number_at-node.ensures ∙ c.in_default.is-0,
      sym c.number_at-sender.ensures ∙ c.in_default.is-1,
      sym c.number_at-number.ensures ∙ c.in_default.is-2,
    ) refl
