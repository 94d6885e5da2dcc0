use Rattle.std.proofs.Common.{◌<◌, ℕ, List, ap, arith, length, subst}
use Rattle.std.specs.Prelude.{IfOk}
use Rattle.at_agree.proofs.Prelude.{length-map, IsAgreement, Agreed, Vote}
use Rattle.at_agree.proofs.AllVotes.{AreCast-all}
use Rattle.at_agree.proofs.agreement.agree.Goals as goal

pub close-requires : goal.close-requires
close-requires g c =
    let all = AreCast-all c.in_ok-council.council c.args.values.now c.in_ok-votes.votes.items c.propose_all.new.votes.items
    c.in_ok-votes.ensures c.propose_all.ensures.count c.propose_all.ensures.cast in
    let some : 0 < length c.propose_all.new.votes.items =
    omega (
      arith,
      c.requires.size.some,
      ap (λ (values : List ℕ). length values) all.1,
      length-map c.propose_all.new.votes.items (λ (x : Vote). x.value),
    ) in
    record { some = some; made = all.0 }

pub returns : goal.returns
returns g c =
    let all = AreCast-all c.in_ok-council.council c.args.values.now c.in_ok-votes.votes.items c.propose_all.new.votes.items
    c.in_ok-votes.ensures c.propose_all.ensures.count c.propose_all.ensures.cast in
    subst (λ (values : List ℕ). IfOk c.close.result (λ (a : Agreed). IsAgreement values a.closed a.value)) all.1 c.close.ensures
