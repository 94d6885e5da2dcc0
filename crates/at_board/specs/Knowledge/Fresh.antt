-- Fresh counts: those that a call may take for a snapshot.
use Rattle.std.specs.Prelude.{◌≡◌, ◌≢◌, ℕ, ◌+◌, ◌<◌, ◌≤◌, ◌⊎◌, List, length, map}
use Rattle.at_board.specs.Prelude.{BookTerms, publication_at}
use Rattle.at_board.specs.Knowledge.Parts.{loads_of, own_part}
use Rattle.at_board.specs.declared.knowledge.Knowledge.{Knowledge}

-- how often a call loads each length at least
abbrev pub fresh_loads : ℕ
fresh_loads = 2

-- the counts are the view of another process's record, which had not been seen when the call began
pub record IsBorrowed (before after : Knowledge) (counts : List ℕ) (m : ℕ) : Type 0 where
  pub later : length before.seen ≤ m
  pub seen : m < length after.seen
  pub other : (publication_at after.seen m).process ≢ after.first
  pub same : (publication_at after.seen m).view ≡ counts

-- in the call each length was loaded at least twice, and the counts are what the last loads gave, or were borrowed
pub record IsFresh (b : BookTerms) (before after : Knowledge) (counts : List ℕ) : Type 0 where
  pub loaded : (p : ℕ) → p < b.processes → (loads_of (own_part before) p).times + fresh_loads ≤ (loads_of (own_part after) p).times
  pub taken : (counts ≡ map (λ l. l.last) (own_part after).loads) ⊎ ((m : ℕ) × IsBorrowed before after counts m)
