-- The cuts that a closing holds, by their places.
use Rattle.std.specs.Prelude.{◌≡◌, ℕ, ◌++◌, ◌<◌, List, [], length, map, slice_index_or, sum, All, Contains, IfSome, Option, Some, None}
use Rattle.at_journal.specs.Prelude.{cons_option, filter_map, flat_map, place, ClosingTerms, log_lengths, receipts_of, cut_at, held_cuts, receipt_at, Receipt}
use Rattle.at_journal.specs.declared.named_cuts.CutAt.{CutAt}

-- at each place below a total stands one of these views that counts so many, or none where no view counts so many
pub record AreByPlace (total : ℕ) (views : List (List ℕ)) (cuts : List (Option (List ℕ))) : Type 0 where
  pub sized : length cuts ≡ total
  pub held : (k : ℕ) (view : List ℕ) → slice_index_or cuts k None ≡ Some view → Contains views view × (place view ≡ k)
  pub all : (view : List ℕ) → Contains views view → place view < total → slice_index_or cuts (place view) None ≡ None → ⊥

-- where a table has some views by their places, it has these too after a change
abbrev pub AreAdded : List (List ℕ) → List (Option (List ℕ)) → List (Option (List ℕ)) → Type 0
AreAdded more old new = (total : ℕ) (views : List (List ℕ)) → AreByPlace total views old → AreByPlace total (views ++ more) new

-- the held cuts by their places, but for those of all publications
abbrev pub AreHeld : ClosingTerms → List (Option (List ℕ)) → Type 0
AreHeld c cuts = AreByPlace (sum (log_lengths c)) (held_cuts c) cuts

-- the cut at which a call of these receipts stands, if it stands at one
abbrev pub cut_of : List Receipt → CutAt → Option (List ℕ)
cut_of receipts x = cut_at (receipt_at receipts x.number).at

-- a cut of the call of a number, by its place
abbrev pub named_by : ℕ → Option (List ℕ) → List CutAt
named_by number cut = map (λ view. record { place = place view; number = number }) (cons_option cut [])

-- these name the cuts of the receipts, in order, and each is at its place
pub record NameCuts (receipts : List Receipt) (list : List CutAt) : Type 0 where
  pub within : All (λ x. x.number < length receipts) list
  pub placed : All (λ x. IfSome (cut_of receipts x) (λ view. place view ≡ x.place)) list
  pub all : flat_map (λ x. cons_option (cut_of receipts x) []) list ≡ filter_map (λ r. cut_at r.at) receipts

-- there is a list for each process, and it names the cuts of its receipts
pub record AreNamed (c : ClosingTerms) (lists : List (List CutAt)) : Type 0 where
  pub sized : length lists ≡ length c.receipts
  pub each : (p : ℕ) → p < length c.receipts → NameCuts (receipts_of c p) (slice_index_or lists p [])
