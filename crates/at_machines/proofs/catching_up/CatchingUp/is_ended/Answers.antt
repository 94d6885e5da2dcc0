use Rattle.std.proofs.Common.{◌≡◌, ◌↔◌, IsTrue, subst}
use Rattle.at_machines.proofs.CatchingUpLaws.{IsEnded-IsCatchingUpSo, upto-ended}
use Rattle.at_machines.proofs.Prelude.{CatchingUpTerms, loads_left}
use Rattle.at_machines.proofs.catching_up.CatchingUp.is_ended.Goals as goal

pub returns-clause-ended : goal.returns-clause-ended
returns-clause-ended c =
    subst (λ (t : CatchingUpTerms). IsTrue c.is_none.result ↔ (loads_left t ≡ 0)) c.self.view_is
    (IsEnded-IsCatchingUpSo c.self.inside.seat.value.knows c.self.inside.counts c.self.inside.totals.value c.self.inside.process c.self.inside.loading
    c.is_none.result c.self.invariant c.is_none.ensures)

pub returns-clause-upto : goal.returns-clause-upto
returns-clause-upto c = λ ended.
    subst (λ (t : CatchingUpTerms). t.totals.upto ≡ t.counts) c.self.view_is
    (upto-ended c.self.inside.seat.value.knows c.self.inside.counts c.self.inside.totals.value c.self.inside.process c.self.inside.loading
    c.is_none.result c.self.invariant c.is_none.ensures ended)
