-- Laws of counts of steps.
use Rattle.std.proofs.Common.{◌≡◌, ℕ, ◌+◌, ◌∙◌, ap, arith}
use Rattle.at_board.proofs.Prelude.{raised, stepped, SeatTerms}

-- so many steps and then so many
pub raised-none : (count : ℕ) → count ≡ raised count 0
raised-none count = omega arith

pub raised-raised : (count first more : ℕ) → raised (raised count first) more ≡ raised count (first + more)
raised-raised count first more = omega arith

pub stepped-none : (seat : SeatTerms) → seat ≡ stepped seat 0
stepped-none seat = λ i. record seat { steps = raised-none seat.steps i }

pub stepped-stepped : (seat after : SeatTerms) (first more : ℕ) → after ≡ stepped seat first → stepped after more ≡ stepped seat (first + more)
stepped-stepped seat after first more is =
    ap (λ (s : SeatTerms). stepped s more) is ∙ (λ i. record seat { steps = raised-raised seat.steps first more i })
