use Rattle.std.proofs.Common.{subst}
use Rattle.at_logs.proofs.Prelude.{CompactState, IsLogBook}
use Rattle.at_logs.proofs.CheckingLaws.{compact_of}
use Rattle.at_logs.proofs.restoring.SavedCore.is_compact.Goals as goal

pub returns : goal.returns
returns c =
    compact_of c.args.self.now c.is_split.result c.requires (subst (λ (x : CompactState). IsLogBook x.book) c.self.view_is c.known.ensures)
    (c.has_total.ensures.0 c.if-not-has_total.false) (c.has_backlogs.ensures.0 c.if-not-has_backlogs.false) c.is_split.ensures
