-- The calls of a pass, the last behind those before it.
use Rattle.std.specs.Prelude.{List, [], ◌∷◌, ◌++◌}
use Rattle.at_object.specs.PastCalls.{PastCall}
use Rattle.at_object.specs.declared.past.Calls.{Calls}
use Rattle.at_object.specs.declared.past.Calls.TheVariants.{After, None}

abbrev pub past_of : Calls → List PastCall
past_of None = []
past_of (After before call) = before.value ++ call.value ∷ []
