-- The steps of a call, turn by turn.
use Rattle.std.proofs.Common.{◌≡◌, ℕ, ◌+◌, ◌*◌, ◌≤◌, arith}
use Rattle.at_payments.proofs.Prelude.{mul-add, mul-le-mul_left, mul_comm, RECORD_WORDS}

times_more : (d t : ℕ) → (d + 1) * t ≡ d * t + t
times_more d t = omega (arith, mul_comm (d + 1) t, mul-add t d 1, mul_comm t d)

times_le : (d k t : ℕ) → d ≤ k → d * t ≤ k * t
times_le d k t fewer = omega (arith, mul-le-mul_left t fewer, mul_comm t d, mul_comm t k)

-- one turn more, with at most one round, stays below the bound of more turns
pub steps_after : (start s a r d k made n m all steps after : ℕ) → made ≤ 1 → d + 1 ≤ k
    → steps ≤ start + s + a + d * (s + r) + RECORD_WORDS * n → after ≤ steps + s + r * made + RECORD_WORDS * m → n + m ≤ all
    → after ≤ start + s + a + k * (s + r) + RECORD_WORDS * all
steps_after start s a r d k made n m all steps after once within before one counted =
    omega (arith, times_more d (s + r), times_le (d + 1) k (s + r) within, mul-le-mul_left r once, before, one, counted)
