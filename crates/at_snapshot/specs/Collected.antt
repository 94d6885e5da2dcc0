-- What loads of lengths tell a seat.
use Rattle.std.specs.Prelude.{◌≡◌, ℕ, ◌+◌, ◌<◌, ◌≤◌, List, length, map, slice_index}
use Rattle.at_snapshot.specs.Prelude.{BookTerms, Knowledge, IsPrefix, count_of, IsHistory, with_part, loads_of, own_part}

-- the numbers that a seat last loaded
abbrev pub collect_of : Knowledge → List ℕ
collect_of v = map (λ l. l.last) (own_part v).loads

-- loads of lengths alone have changed what the seat knows: its list begins with the old one
pub record HasLoaded (b : BookTerms) (before after : Knowledge) : Type 0 where
  pub more : IsPrefix before.seen after.seen
  pub own : count_of before.first after.seen ≡ (own_part before).published
  pub history : IsHistory b after.seen
  pub lengths : length (own_part after).loads ≡ b.processes
  pub same : after ≡ with_part (record before { seen = after.seen }) (record (own_part before) { loads = (own_part after).loads })

-- a collect loads each length once. The number of each process counts at least its publications that were seen before, and
-- at most those that are seen now
pub record IsCollect (b : BookTerms) (before after : Knowledge) : Type 0 where
  pub loaded : HasLoaded b before after
  pub times : (p : ℕ) → p < b.processes → (loads_of (own_part after) p).times ≡ (loads_of (own_part before) p).times + 1
  pub least : (p : ℕ) → p < b.processes → count_of p before.seen ≤ slice_index (collect_of after) p
  pub most : (p : ℕ) → p < b.processes → slice_index (collect_of after) p ≤ count_of p after.seen

-- a collect in the making: the lengths of the processes before p are loaded, each once and nothing else since, and the counts have
-- their numbers
pub record IsCollecting (b : BookTerms) (before after : Knowledge) (counts : List ℕ) (p : ℕ) : Type 0 where
  pub sized : length counts ≡ b.processes
  pub start : p ≡ 0 → after ≡ before
  pub loaded : 0 < p → HasLoaded b before after
  pub done : (q : ℕ) → q < p → (loads_of (own_part after) q).times ≡ (loads_of (own_part before) q).times + 1
  pub left : (q : ℕ) → p ≤ q → (loads_of (own_part after) q).times ≡ (loads_of (own_part before) q).times
  pub last : (q : ℕ) → q < p → (loads_of (own_part after) q).last ≡ slice_index counts q
  pub least : (q : ℕ) → q < p → count_of q before.seen ≤ slice_index counts q
  pub most : (q : ℕ) → q < p → slice_index counts q ≤ count_of q after.seen
