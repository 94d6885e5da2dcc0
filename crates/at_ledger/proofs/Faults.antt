-- The first of several faults.
use Rattle.std.proofs.Common.{◌≡◌, Bool, true, false, cond, Option, Some, None, refl}
use Rattle.at_ledger.proofs.Prelude.{option_or}

-- a test that gives a fault failed where there is none
pub choice-none : {A : Type 0} (b : Bool) (x : A) (rest : Option A) → cond b (Some x) rest ≡ None → (b ≡ false) × (rest ≡ None)
choice-none true x rest e = absurd (cc)
choice-none false x rest e = (refl, e)

-- neither of two has a fault
pub option_or-none : {A : Type 0} (x y : Option A) → option_or x y ≡ None → (x ≡ None) × (y ≡ None)
option_or-none None y e = (refl, e)
option_or-none (Some x) y e = absurd (cc)
