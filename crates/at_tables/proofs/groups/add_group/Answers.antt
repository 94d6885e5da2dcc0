use Rattle.std.proofs.Common.{ℕ, ◌<◌, ◌∙◌, All, List, ap, map, refl, sym, subst, arith}
use Rattle.at_tables.proofs.Prelude.{All-insert_key, groups_in, group_terms, GroupTerms, group_cmp, Group}
use Rattle.at_tables.proofs.GroupLaws.{map-insert_key, with_group-some}
use Rattle.at_tables.proofs.groups.add_group.Goals as goal

pub returns-clause-added : goal.returns-clause-added
returns-clause-added c =
    let g : GroupTerms = record { payments = c.args.payments; owners = c.args.owners.items } in
    let some : 0 < c.args.payments = omega arith in
    ap (λ (keys : List Group). map group_terms keys) c.in-Ok.ensures.keys
    ∙ (map-insert_key _ group_cmp group_terms (λ x y. refl) c.args.groups.now.keys _ ∙ sym (with_group-some (groups_in c.args.groups.now) g some))

pub returns-clause-known : goal.returns-clause-known
returns-clause-known c = λ processes before owners.
    let Known : Group → Type 0 = λ g. All (λ (owner : ℕ). owner < processes) g.owners.items in
    subst (λ (keys : List Group). All Known keys) (sym c.in-Ok.ensures.keys) (All-insert_key _ _ Known c.args.groups.now.keys before owners)
