-- Targets with accounts that fit 16 bits, in place of any.
use Rattle.std.specs.Prelude.{ℕ, List, map, min}
use Rattle.at_c.specs.Prelude.{TargetPair}
use Rattle.at_c.specs.declared.target.Target.{Target}

-- an account that fits stays as it is; in place of another stands the last one that fits, which no book has
abbrev pub near_account : ℕ → ℕ
near_account account = min account 65535

-- targets as pairs of such an account and an amount
abbrev pub near_pairs_of : List Target → List TargetPair
near_pairs_of targets = map (λ (t : Target). (near_account t.account, t.amount)) targets
