use Rattle.std.proofs.Common.{◌≡◌, All, length, take}
use Rattle.at_orders.proofs.Prelude.{contents_of, ArePlaces, HasFirstPlace}
use Rattle.at_orders.proofs.places.Places.new.Given as goal

abbrev pub invariant-loop-file : goal.invariant-loop-file
invariant-loop-file l = record {
  size : length l.places.of.items ≡ l.accounts;
  places : ArePlaces l.accounts l.places.named.items l.places.of.items;
  named : All (All (HasFirstPlace l.places.of.items)) (take l.file-index (contents_of l.files));
}
