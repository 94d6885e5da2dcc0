use Rattle.std.proofs.Common.{codes}
use Rattle.at_tables.proofs.FieldLaws.{four_parted}
use Rattle.at_tables.proofs.orders_table.push_payment.Goals as goal

pub returns : goal.returns
returns c =
    let r = c.args.replies.now in
    four_parted c.args.out.now.items _ _ _ _ r.done r.short r.full r.not_owner _ _ _ (codes "done") (codes "short") (codes "full") (codes "not-owner")
    c.in_ok-any.ensures.added c.in_ok-any.ensures.any c.in_ok-any-2.ensures.added c.in_ok-any-2.ensures.any c.in_ok-any-3.ensures.added c.in_ok-any-3.ensures.any
    c.in_ok-push_if.ensures.added
