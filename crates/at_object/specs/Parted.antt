-- Passes taken apart, into their seats and what is kept beside these.
use Rattle.std.specs.Prelude.{◌≡◌, ℕ, ◌≤◌, [], Vec}
use Rattle.at_object.specs.Prelude.{vec_capacity, vec_len, loads_of, own_part, Receipt, IsKept, SeatTerms, IsBetweenCalls}
use Rattle.at_object.specs.CallCounts.{CallCountTerms, with_one_call}
use Rattle.at_object.specs.Passes.{IsPass, PassTerms}
use Rattle.at_object.specs.declared.parts.Rest.{Rest}

-- the pass that a seat and the rest make
abbrev pub pass_of : SeatTerms → Rest → PassTerms
pass_of seat rest =
    record { board = seat.board; knows = seat.knows; steps = seat.steps; exchanges = seat.exchanges; counted = rest.totals.upto; calls = rest.calls.count; past = rest.calls.past }

-- the calls were counted for the seat's process on its board, and what the seat had made and loaded then it has made and loaded still
pub record IsCountOf (calls : CallCountTerms) (seat : SeatTerms) : Type 0 where
  pub board : calls.last.board ≡ seat.board
  pub process : calls.last.knows.first ≡ seat.knows.first
  pub loads : (p : ℕ) → (loads_of (own_part calls.last.knows) p).times ≤ (loads_of (own_part seat.knows) p).times
  pub steps : calls.last.steps ≤ seat.steps
  pub exchanges : calls.last.exchanges ≤ seat.exchanges

-- the rest of a pass after one more call with this receipt, which began with one seat and has left the other
abbrev pub after_one_call : SeatTerms → SeatTerms → Receipt → Rest → Rest
after_one_call start seat r rest = record rest { calls = with_one_call start seat rest.totals r rest.calls }

-- they are of one pass, and its totals are as its last call or look left them
pub record IsOfOnePass (seat : SeatTerms) (rest : Rest) : Type 0 where
  pub pass : IsPass seat.knows rest.totals rest.sent
  pub calls : IsCountOf rest.calls seat
  pub counted : rest.calls.totals ≡ rest.totals

-- a seat whose process is between calls, with what its type keeps
pub record IsAtRest (seat : SeatTerms) : Type 0 where
  pub kept : IsKept seat.knows
  pub between : IsBetweenCalls seat.knows.book seat.knows

-- an empty list that has the memory of so many
abbrev pub HasMemoryFor : {X Z : Type 0} → Vec X Z → ℕ → Type 0
HasMemoryFor v n = (v.items ≡ []) × (vec_len v ≡ 0) × (n ≤ vec_capacity v)
