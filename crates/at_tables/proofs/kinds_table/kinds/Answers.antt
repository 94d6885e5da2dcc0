use Rattle.at_tables.proofs.Prelude.{common_steps, IsStrictlySortedBy, contents_of, length-contents_of, Call, lines_text, AreCounts, GroupTerms, group_cmp, groups_of, account_lines, group_lines, head_lines}
use Rattle.std.proofs.Common.{ℕ, ◌∙◌, ◌++◌, List, ap, sym, subst, arith}
use Rattle.at_tables.proofs.RightGroups.{groups_of-AreGroups}
use Rattle.at_tables.proofs.KindsTextLaws.{three_parts}
use Rattle.at_tables.proofs.kinds_table.kinds.Goals as goal

pub returns-clause-text : goal.returns-clause-text
returns-clause-text c =
    let b = c.args.book.now in
    let names = c.args.names.now in
    let files : List (List Call) = contents_of c.args.files.now in
    let all = subst (λ (n : ℕ). AreCounts b files n c.in_ok-counts.counts) (sym (length-contents_of c.args.files.now ∙ c.requires.processes)) c.in_ok-counts.ensures in
    let groups = c.in_ok-groups.ensures.groups files all in
    three_parts c.push_head.new.out.items c.push_accounts.new.out.items c.push_groups.new.out.items (head_lines b files) (account_lines b names files) (group_lines names (groups_of b files))
    (c.in_ok-push_head.ensures files all ∙ ap (λ (out : List ℕ). out ++ lines_text (head_lines b files)) c.new-out.ensures.items)
    (c.in_ok-push_accounts.ensures files all)
    (c.in_ok-push_groups.ensures ∙ ap (λ (gs : List GroupTerms). c.push_accounts.new.out.items ++ lines_text (group_lines names gs)) groups)

pub returns-clause-groups : goal.returns-clause-groups
returns-clause-groups c =
    let b = c.args.book.now in
    let files : List (List Call) = contents_of c.args.files.now in
    let all = subst (λ (n : ℕ). AreCounts b files n c.in_ok-counts.counts) (sym (length-contents_of c.args.files.now ∙ c.requires.processes)) c.in_ok-counts.ensures in
    groups_of-AreGroups b files (subst (λ (gs : List GroupTerms). IsStrictlySortedBy group_cmp gs) (c.in_ok-groups.ensures.groups files all) c.in_ok-groups.ensures.ordered)

pub push_groups-requires : goal.push_groups-requires
push_groups-requires c = grind (arith, common_steps)

pub push_accounts-requires-clause-counted : goal.push_accounts-requires-clause-counted
push_accounts-requires-clause-counted c = grind (arith, common_steps)

pub push_accounts-requires-clause-processes : goal.push_accounts-requires-clause-processes
push_accounts-requires-clause-processes c = grind (arith, common_steps)

pub push_accounts-requires-clause-accounts : goal.push_accounts-requires-clause-accounts
push_accounts-requires-clause-accounts c = grind (arith, common_steps)

pub groups-requires : goal.groups-requires
groups-requires c = grind (arith, common_steps)
