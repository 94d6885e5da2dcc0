-- How a count of steps rises.
use Rattle.std.specs.Prelude.{ℕ, ◌+◌, ◌-◌, ◌^◌, max, min}
use Rattle.at_board.specs.Knowledge.Seats.{SeatTerms}

-- a count of 64 bits after so many more: it stays at the largest
abbrev pub raised : ℕ → ℕ → ℕ
raised count more = max count (min (count + more) (2 ^ 64 - 1))

-- the seat after so many steps, none of them an exchange, which have told it nothing new
abbrev pub stepped : SeatTerms → ℕ → SeatTerms
stepped seat n = record seat { steps = raised seat.steps n }

-- the seat after so many exchanges, each of them also a step, which have told it nothing new
abbrev pub exchanged : SeatTerms → ℕ → SeatTerms
exchanged seat n = record seat { steps = raised seat.steps n; exchanges = raised seat.exchanges n }
