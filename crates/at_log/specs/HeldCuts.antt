-- The cuts that a closing holds.
use Rattle.std.specs.Prelude.{ℕ, ◌++◌, List, [], ◌∷◌, map, Option, Some, None}
use Rattle.at_log.specs.Prelude.{filter_map, flat_map}
use Rattle.at_log.specs.declared.receipt.At.{At}
use Rattle.at_log.specs.declared.receipt.At.TheVariants.{Cut, Own, Round, Previous}
use Rattle.at_log.specs.ClosingTerms.{ClosingTerms, log_lengths}

-- the cut at which a receipt stands
abbrev pub cut_at : At → Option (List ℕ)
cut_at (Cut view) = Some view
cut_at (Own number) = None
cut_at (Round round place) = None
cut_at Previous = None

-- the views of the records, the cuts of the receipts, and the lengths of the logs
abbrev pub held_cuts : ClosingTerms → List (List ℕ)
held_cuts c =
    flat_map (λ log. map (λ x. x.view) log) c.logs
    ++ flat_map (λ receipts. filter_map (λ r. cut_at r.at) receipts) c.receipts
    ++ log_lengths c ∷ []
