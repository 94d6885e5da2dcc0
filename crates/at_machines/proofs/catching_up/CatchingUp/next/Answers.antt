use Rattle.std.proofs.Common.{◌≡◌, Option, None, sym, subst, ◌∙◌}
use Rattle.at_machines.proofs.Prelude.{BoardStep, CatchingUpTerms, catch_step, loaded_of, words_held, IsCatchingUpSo, LoadingTerms}
use Rattle.at_machines.proofs.CatchingUpLaws.{catch_step-None, catch_step-Some}
use Rattle.at_machines.proofs.catching_up.CatchingUp.next.Goals as goal

pub returns-in-Some : goal.returns-in-Some
returns-in-Some c =
    let i = c.self.inside in
    let l : LoadingTerms = c.in-Some.loading in
    let so = subst (IsCatchingUpSo i.seat.value.knows i.counts i.totals.value i.process) c.in-Some.is c.self.invariant in
    subst (λ (t : CatchingUpTerms). c.next.result ≡ catch_step t) c.self.view_is
    (subst (λ (x : Option LoadingTerms). c.next.result ≡ catch_step (record { counts = i.counts; knows = i.seat.value.knows; totals = i.totals.value; process = i.process; loaded = loaded_of x; words = words_held x }))
    (sym c.in-Some.is) (c.next.ensures ∙ catch_step-Some i.seat.value.knows i.counts i.totals.value i.process l so))

pub returns-in-None : goal.returns-in-None
returns-in-None c =
    let i = c.self.inside in
    let so = subst (IsCatchingUpSo i.seat.value.knows i.counts i.totals.value i.process) c.in-None.is c.self.invariant in
    let none : Option BoardStep = None in
    subst (λ (t : CatchingUpTerms). none ≡ catch_step t) c.self.view_is
    (subst (λ (x : Option LoadingTerms). none ≡ catch_step (record { counts = i.counts; knows = i.seat.value.knows; totals = i.totals.value; process = i.process; loaded = loaded_of x; words = words_held x }))
    (sym c.in-None.is) (sym (catch_step-None i.seat.value.knows i.counts i.totals.value i.process so)))
