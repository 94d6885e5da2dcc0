use Rattle.std.proofs.Common.{◌≡◌, ◌+◌, ◌≤◌, ◌++◌, map}
use Rattle.at_object.proofs.Prelude.{All, vec_capacity, vec_len, IsAtRest, seat_of}
use Rattle.at_object.proofs.close.seats_of.Given as goal

-- the seats are those that were taken, and those of the other passes. There is room for these
abbrev pub invariant-loop-pass : goal.invariant-loop-pass
invariant-loop-pass l = record {
  next : (goal.iterator-loop-pass).can_next l.pass-iterator;
  finite : (goal.iterator-loop-pass).is_finite l.pass-iterator;
  seats : map seat_of l.fn.passes.items ≡ l.seats.items ++ map seat_of l.pass-iterator.rest.items;
  at_rest : All IsAtRest l.seats.items;
  room : vec_len l.seats + l.pass-iterator.rest.len ≤ vec_capacity l.seats;
}
