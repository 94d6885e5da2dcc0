use Rattle.at_tables.proofs.Prelude.{common_steps, account_of, group_terms, GroupTerms, group_cmp, group_of_owners, groups_among, is_agreed_by, with_group, count_in}
use Rattle.std.proofs.Common.{◌≡◌, ℕ, ◌∙◌, List, take, get_or, ap, sym, refl, arith}
use Rattle.at_tables.proofs.GroupLaws.{group-same, groups_among-more}
use Rattle.at_tables.proofs.RightGroups.{sorted-map}
use Rattle.at_tables.proofs.SumLaws.{sum_first-agreed}
use Rattle.at_tables.proofs.groups.groups.Goals as goal

pub loop-account-preserved : goal.loop-account-preserved
loop-account-preserved c =
    let b = c.args.book.now in
    let a : ℕ = c.loop-account.account in
    let owners : List ℕ = c.in_ok-owners.owners.items in
    let g : GroupTerms = record { payments = c.total_in-payments.result; owners = owners } in
    record {
      groups = λ files counts.
          let payments : c.total_in-payments.result ≡ count_in (is_agreed_by owners b) files =
          c.total_in-payments.ensures
          ∙ (c.in_ok-totals.ensures c.in_ok-owners.owners ∙ sum_first-agreed b owners c.as_slice.result.now files (λ k. ap (λ (items : List ℕ). get_or items k 0) c.as_slice.ensures.value ∙ counts.by_owners k)) in
          let same : g ≡ group_of_owners b files (account_of b a) = group-same b files (account_of b a) c.total_in-payments.result owners c.in_ok-owners.ensures.owners payments in
          c.in_ok-add_group.ensures.added
          ∙ ap (λ (groups : List GroupTerms). with_group groups g) (c.loop-account.invariant.groups files counts)
          ∙ ap (λ (x : GroupTerms). with_group (groups_among b files (take a b.accounts)) x) same
          ∙ sym (groups_among-more b files a (omega arith));
      known = c.in_ok-add_group.ensures.known b.processes c.loop-account.invariant.known c.in_ok-owners.ensures.known;
    }

pub returns-clause-ordered : goal.returns-clause-ordered
returns-clause-ordered c = sorted-map _ group_cmp group_terms c.loop-account.groups.keys c.len-ordered.ensures.ordered (λ x y. refl)

pub returns-clause-known : goal.returns-clause-known
returns-clause-known c = grind (arith, common_steps)

pub returns-clause-groups : goal.returns-clause-groups
returns-clause-groups c = grind (arith, common_steps)

pub owners_of-requires : goal.owners_of-requires
owners_of-requires c = grind (arith, common_steps)

pub loop-account-init : goal.loop-account-init
loop-account-init c = grind (arith, common_steps)
