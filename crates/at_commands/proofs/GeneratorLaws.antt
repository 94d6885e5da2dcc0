-- The states and the calls of the generator, one after another.
use Rattle.std.proofs.Common.{◌≡◌, ℕ, ◌+◌, zero, suc, refl, ap, add-one, add-suc, add-zero}
use Rattle.at_commands.proofs.Prelude.{state_after_call, state_after_calls}

-- no call
pub state_after_calls_none : (x : ℕ) → state_after_calls x 0 ≡ x
unfolding state_after_calls
state_after_calls_none x = refl

-- one more call
pub state_after_calls_more : (x n : ℕ) → state_after_calls x (n + 1) ≡ state_after_call (state_after_calls x n)
unfolding state_after_calls
state_after_calls_more x n = rw add-one refl

-- so many calls, and then as many more
pub state_after_calls-add : (x m n : ℕ) → state_after_calls (state_after_calls x m) n ≡ state_after_calls x (m + n)
unfolding state_after_calls
state_after_calls-add x m zero = rw add-zero refl
state_after_calls-add x m (suc n) = rw add-suc (ap state_after_call (state_after_calls-add x m n))
