use Rattle.at_tables.proofs.Prelude.{common_steps, group_terms, GroupTerms, agreement_text, Group}
use Rattle.std.proofs.Common.{ℕ, ◌<◌, ◌∙◌, ◌++◌, All, List, ap, append_assoc, flat_map, length, map, sym, arith}
use Rattle.at_tables.proofs.GroupLaws.{first_of, rest_of}
use Rattle.at_tables.proofs.sentence.push_agreements.Goals as goal

pub push_agreement-requires : goal.push_agreement-requires
push_agreement-requires c =
    let Known : Group → Type 0 = λ g. All (λ (owner : ℕ). owner < length c.args.names.now.processes) g.owners.items in
    first_of Known c.loop-group.groups.keys c.pop_first.new.self.keys c.in-Some.group c.in-Some.ensures.removal c.loop-group.invariant.known

pub loop-group-preserved : goal.loop-group-preserved
loop-group-preserved c =
    let Known : Group → Type 0 = λ g. All (λ (owner : ℕ). owner < length c.args.names.now.processes) g.owners.items in
    let text_of : GroupTerms → List ℕ = agreement_text c.args.names.now in
    let left : List Group = c.pop_first.new.self.keys in
    let out : List ℕ = c.loop-group.out.items in
    record {
      known = rest_of Known c.loop-group.groups.keys left c.in-Some.group c.in-Some.ensures.removal c.loop-group.invariant.known;
      text =
          ap (λ (text : List ℕ). text ++ flat_map text_of (map group_terms left)) c.in_ok-push_agreement.ensures
          ∙ append_assoc out (text_of (group_terms c.in-Some.group)) (flat_map text_of (map group_terms left))
          ∙ ap (λ (keys : List Group). out ++ flat_map text_of (map group_terms keys)) (sym c.in-Some.ensures.removal)
          ∙ c.loop-group.invariant.text;
    }

pub returns : goal.returns
returns c = grind (arith, common_steps)

pub loop-group-smaller : goal.loop-group-smaller
loop-group-smaller c = grind (arith, common_steps)

pub loop-group-init : goal.loop-group-init
loop-group-init c = grind (arith, common_steps)
