use Rattle.at_tables.proofs.Prelude.{common_steps, account_of, Totals, part_of, total_in}
use Rattle.std.proofs.Common.{◌≡◌, ℕ, ◌<◌, ◌≤◌, ◌^◌, ◌∙◌, cond, ap, sym, length, arith, bytes_eq, List}
use Rattle.std.specs.Prelude.{slice_index}
use Rattle.at_tables.proofs.SumLaws.{part_of-shared, part_of-other, sum_first-more, sum_first-small}
use Rattle.at_tables.proofs.groups.totals_of.Goals as goal
use Rattle.at_tables.proofs.groups.totals_of.Goals.{then-owner_count-ge2+in_ok-owners+in_ok-add_to_total, else-owner_count-ge2}

pub add_to_total-requires : goal.add_to_total-requires
add_to_total-requires c =
    let b = c.args.book.now in
    let counts : List ℕ = c.args.counts.now in
    let a : ℕ = c.loop-account.account in
    let few = c.accounts-account-end.ensures.checked.begun.few_accounts in
    let small : (k : ℕ) → k < length counts → slice_index counts k < 2 ^ 32 = λ k within. omega (arith, c.type_inv.counts k) in
    let total = c.loop-account.invariant c.in_ok-owners.owners in
    let bound = sum_first-small b counts c.in_ok-owners.owners.items a (λ k below. small k (omega arith)) in
    omega (arith, few, total, bound, small a (omega arith))

pub loop-account-preserved : goal.loop-account-preserved
loop-account-preserved c = λ owners.
    let b = c.args.book.now in
    let counts : List ℕ = c.args.counts.now in
    let a : ℕ = c.loop-account.account in
    let before = c.loop-account.invariant owners in
    let more = sum_first-more b counts owners.items a in
    elim c.if-owner_count-ge2.branch [
      | then-owner_count-ge2+in_ok-owners+in_ok-add_to_total w ↦
          let shared : 2 ≤ length (account_of b a).owners = omega (arith, c.owner_count.ensures.count, w.if-owner_count-ge2.true) in
          let part : cond (bytes_eq w.in_ok-owners.owners.items owners.items) (slice_index counts a) 0 ≡ part_of b counts owners.items a =
          ap (λ (items : List ℕ). cond (bytes_eq items owners.items) (slice_index counts a) 0) w.in_ok-owners.ensures.owners ∙ sym (part_of-shared b counts owners.items a shared) in
          ap (λ (totals : Totals). total_in totals owners) w.totals-is ∙ omega (arith, before, more, part, w.in_ok-add_to_total.ensures owners)
      | else-owner_count-ge2 w ↦
          let other : length (account_of b a).owners < 2 = omega (arith, c.owner_count.ensures.count, w.if-owner_count-ge2.false) in
          ap (λ (totals : Totals). total_in totals owners) w.totals-is ∙ omega (arith, before, more, part_of-other b counts owners.items a other)
    ]

pub bounds-counts-account : goal.bounds-counts-account
bounds-counts-account c = grind (arith, common_steps)

pub returns : goal.returns
returns c = grind (arith, common_steps)

pub loop-account-init : goal.loop-account-init
loop-account-init c = grind (arith, common_steps)

pub offset_bounds-counts-account : goal.offset_bounds-counts-account
offset_bounds-counts-account c = grind (arith, common_steps)

pub overflow_cast-account : goal.overflow_cast-account
overflow_cast-account c = grind (arith, common_steps)

pub owners_of-requires : goal.owners_of-requires
owners_of-requires c = grind (arith, common_steps)

pub owner_count-requires : goal.owner_count-requires
owner_count-requires c = grind (arith, common_steps)
