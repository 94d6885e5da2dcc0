-- The records that are counted, and what they say of a request.
use Rattle.std.specs.Prelude.{◌≡◌, ℕ, false, List, length, take, slice_index, Contains, Option, Some, None}
use Rattle.at_fold.specs.Prelude.{flat_map, range_with_len, Decision, TargetPair, Round, Publication, publications_of, is_settled}

-- the first records of each process, as many as its count says, process by process
unfoldable pub counted_records : List ℕ → List Publication → List Publication
counted_records upto list = flat_map (λ p. take (slice_index upto p) (publications_of p list)) (range_with_len 0 (length upto))

-- a record of the list says that the request was decided in this round
pub record IsDecidedIn (list : List Publication) (a s n r : ℕ) (d : Decision) : Type 0 where
  pub publication : Publication
  pub targets : List TargetPair
  pub listed : Contains list publication
  pub entry : publication.entry ≡ Round a r d targets
  pub slot : d.slot ≡ s
  pub number : d.number ≡ n

-- where a request was decided; nothing is answered exactly where no record names it
abbrev pub IsSettledSo : List Publication → ℕ → ℕ → ℕ → Option (ℕ × Decision) → Type 0
IsSettledSo list a slot number None = is_settled a slot number list ≡ false
IsSettledSo list a slot number (Some (round, d)) = IsDecidedIn list a slot number round d
