use Rattle.std.proofs.Common.{◌≡◌, length}
use Rattle.at_c.proofs.Prelude.{AreOwned}
use Rattle.at_c.proofs.shared.places_of.Given as goal

-- the places so far are this ledger's
abbrev pub invariant-loop-i : goal.invariant-loop-i
invariant-loop-i g l = record {
  count : length l.places.items ≡ l.i;
  owned : AreOwned l.ledger l.each l.places.items;
}
