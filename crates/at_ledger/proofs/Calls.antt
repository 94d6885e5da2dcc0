-- Calls that name accounts which are there.
use Rattle.std.proofs.Common.{ℕ, ◌≤◌, arith}
use Rattle.at_ledger.proofs.Prelude.{IsCallOn, Call, Transfer, Read, Pay}

-- a call on so many accounts is one on more
pub IsCallOn-more : (accounts more : ℕ) (call : Call) → accounts ≤ more → IsCallOn accounts call → IsCallOn more call
IsCallOn-more accounts more (Transfer from to amount) fewer known = (omega (arith, known.0, fewer), omega (arith, known.1, fewer))
IsCallOn-more accounts more (Read account) fewer known = omega (arith, known, fewer)
IsCallOn-more accounts more (Pay from targets) fewer known =
    (omega (arith, known.0, fewer), λ k d within. omega (arith, known.1 k d within, fewer))
