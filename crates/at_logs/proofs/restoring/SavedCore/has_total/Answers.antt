use Rattle.std.proofs.Common.{List, ℕ, length, ap, arith}
use Rattle.at_logs.proofs.Prelude.{CompactState}
use Rattle.at_logs.proofs.restoring.SavedCore.has_total.Goals as goal

pub sum_of-requires : goal.sum_of-requires
sum_of-requires c =
    omega (
      arith,
      ap (λ (l : List ℕ). length l) c.deref.ensures.value,
      ap (λ (x : CompactState). length x.balances) c.self.view_is,
      c.requires,
      ap (λ (x : CompactState). length x.book.accounts) c.self.view_is,
      c.total_of-total.ensures.book.few_accounts,
    )
