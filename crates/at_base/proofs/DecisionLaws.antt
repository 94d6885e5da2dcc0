-- Decisions by their words: two that fit have one word only if they are one.
use Rattle.std.proofs.Common.{◌≡◌, ℕ, ◌+◌, ◌*◌, ◌<◌, Bool, true, false, cond, refl, arith}
use Rattle.at_base.proofs.Prelude.{InRange, word_of, Decision}

-- a decision by its word
same_bit : (x y : Bool) → cond x 1 0 ≡ cond {A = ℕ} y 1 0 → x ≡ y
same_bit true true e = refl
same_bit false false e = refl
same_bit true false e = absurd (omega arith)
same_bit false true e = absurd (omega arith)

small_bit : (x : Bool) → cond x 1 0 < 2
small_bit true = omega arith
small_bit false = omega arith

same_fields : (a b c d a' b' c' d' : ℕ) → a < 2 → b < 8 → c < 1024 → a' < 2 → b' < 8 → c' < 1024
    → 1 + a + 2 * b + 16 * c + 262144 * d ≡ 1 + a' + 2 * b' + 16 * c' + 262144 * d' → (a ≡ a') × (b ≡ b') × (c ≡ c') × (d ≡ d')
same_fields a b c d a' b' c' d' p0 p1 p2 q0 q1 q2 e = (omega arith, omega arith, omega arith, omega arith)

pub same_decision : (d e : Decision) → InRange d → InRange e → word_of d ≡ word_of e → d ≡ e
same_decision d e one other same =
    let fields = same_fields (cond d.ok 1 0) d.slot d.number d.place (cond e.ok 1 0) e.slot e.number e.place
    (small_bit d.ok) one.slot one.number (small_bit e.ok) other.slot other.number same in
    let ok = same_bit d.ok e.ok fields.0 in
    λ t. record { ok = ok t; slot = fields.1 t; number = fields.2 t; place = fields.3 t }
