use Rattle.std.proofs.Common.{All, length, take}
use Rattle.at_orders.proofs.Prelude.{ArePlaces, HasFirstPlace, KeepsPlaces}
use Rattle.at_orders.proofs.places.Places.add_file.Given as goal

abbrev pub invariant-loop-call : goal.invariant-loop-call
invariant-loop-call l = record {
  places : ArePlaces (length l.fn.self.of.items) l.self.named.items l.self.of.items;
  keeps : KeepsPlaces l.fn.self.of.items l.self.of.items;
  named : All (HasFirstPlace l.self.of.items) (take l.call-index l.file);
}
