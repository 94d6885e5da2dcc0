use Rattle.at_tables.proofs.Prelude.{common_steps, line_text, lines_text, group_terms, group_words, Group}
use Rattle.std.proofs.Common.{ℕ, ◌<◌, ◌∙◌, ◌++◌, All, List, ap, append_assoc, length, map, sym, arith}
use Rattle.at_tables.proofs.GroupLaws.{first_of, rest_of}
use Rattle.at_tables.proofs.kinds_table.push_groups.Goals as goal

pub push_group-requires : goal.push_group-requires
push_group-requires c =
    let Known : Group → Type 0 = λ g. All (λ (owner : ℕ). owner < length c.args.names.now.processes) g.owners.items in
    first_of Known c.loop-group.groups.keys c.pop_first.new.self.keys c.in-Some.group c.in-Some.ensures.removal c.loop-group.invariant.known

pub loop-group-preserved : goal.loop-group-preserved
loop-group-preserved c =
    let Known : Group → Type 0 = λ g. All (λ (owner : ℕ). owner < length c.args.names.now.processes) g.owners.items in
    let words = group_words c.args.names.now in
    let left : List Group = c.pop_first.new.self.keys in
    let out : List ℕ = c.loop-group.out.items in
    record {
      known = rest_of Known c.loop-group.groups.keys left c.in-Some.group c.in-Some.ensures.removal c.loop-group.invariant.known;
      text =
          ap (λ (text : List ℕ). text ++ lines_text (map words (map group_terms left))) c.in_ok-push_group.ensures
          ∙ append_assoc out (line_text (words (group_terms c.in-Some.group))) (lines_text (map words (map group_terms left)))
          ∙ ap (λ (keys : List Group). out ++ lines_text (map words (map group_terms keys))) (sym c.in-Some.ensures.removal)
          ∙ c.loop-group.invariant.text;
    }

pub returns : goal.returns
returns c = grind (arith, common_steps)

pub loop-group-smaller : goal.loop-group-smaller
loop-group-smaller c = grind (arith, common_steps)

pub loop-group-init : goal.loop-group-init
loop-group-init c = grind (arith, common_steps)
