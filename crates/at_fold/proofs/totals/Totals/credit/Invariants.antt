use Rattle.std.proofs.Common.{◌≡◌, ℕ, ◌*◌, ◌^◌, ◌≤◌, length, take}
use Rattle.at_fold.proofs.Prelude.{amount_for}
use Rattle.at_fold.proofs.Amounts.{AreCredited}
use Rattle.at_fold.proofs.totals.Totals.credit.Given as goal

abbrev pub invariant-loop-i : goal.invariant-loop-i
invariant-loop-i l = record {
  upto : l.self-inside.upto ≡ l.initial.self-inside.upto;
  credited : AreCredited l.initial.self-inside.accounts.items l.self-inside.accounts.items (take l.i l.targets);
  small : (a : ℕ) → amount_for a (take l.i l.targets) ≤ l.i * 2 ^ 64;
  few : length l.targets ≤ 4;
}
