use Rattle.std.proofs.Common.{◌≡◌, ◌≤◌, ◌*◌, ◌^◌, take}
use Rattle.at_ledger.proofs.Prelude.{zip, amount_of}
use Rattle.at_ledger.proofs.targets.Targets.sum.Given as goal

abbrev pub invariant-loop-i : goal.invariant-loop-i
invariant-loop-i l =
    (l.sum ≡ amount_of (take l.i (zip l.self-inside.accounts l.self-inside.amounts))) × (l.sum ≤ l.i * 2 ^ 64)
