-- What is known of the records while the turns are gone through.
use Rattle.std.specs.Prelude.{◌≡◌, ℕ, List}
use Rattle.at_pages.specs.Prelude.{HashSet, list_any, TurnMade}
use Rattle.at_pages.specs.Curves.{is_same_load, was_loaded}
use Rattle.at_pages.specs.declared.loads.LoadNumbers.{LoadNumbers}

-- the loads are those that the turns have made of the records of process q
abbrev pub AreLoads : {S : Type 0} → ℕ → HashSet LoadNumbers S → List TurnMade → Type 0
AreLoads q loads turns = (x : LoadNumbers) → list_any (is_same_load x) loads.keys ≡ was_loaded q turns x
