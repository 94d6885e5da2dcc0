-- What is known of the cells while the turns are gone through.
use Rattle.std.specs.Prelude.{◌≡◌, List}
use Rattle.at_pages.specs.Prelude.{list_any, HashSet, TurnMade}
use Rattle.at_pages.specs.Arrows.{is_same_cell, was_exchanged}
use Rattle.at_pages.specs.declared.decisions.CellNumbers.{CellNumbers}

-- the cells are those that the turns have exchanged
abbrev pub AreExchanged : {S : Type 0} → HashSet CellNumbers S → List TurnMade → Type 0
AreExchanged cells turns = (c : CellNumbers) → list_any (is_same_cell c) cells.keys ≡ was_exchanged turns c
