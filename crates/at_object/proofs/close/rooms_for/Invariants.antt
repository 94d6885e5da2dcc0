use Rattle.std.proofs.Common.{◌≡◌, ℕ, ◌<◌, ◌≤◌, [], Vec, Global, length, get_or}
use Rattle.at_object.proofs.Prelude.{vec_capacity, own_part, Record, PassTerms}
use Rattle.at_object.proofs.close.rooms_for.Given as goal

-- so many lists are made
abbrev pub invariant-loop-pass : goal.invariant-loop-pass
invariant-loop-pass l = record {
  count : length l.rooms.items ≡ l.pass-index;
  empty : (p : ℕ) (d : Vec Record Global) → p < l.pass-index → (get_or l.rooms.items p d).items ≡ [];
  room : (p : ℕ) (d : Vec Record Global) (e : PassTerms) → p < l.pass-index →
      (own_part (get_or l.passes p e).knows).published ≤ vec_capacity (get_or l.rooms.items p d);
}
