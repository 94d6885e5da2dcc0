-- What an append asks of a seat and a record, and what it has stored before it publishes.
use Rattle.std.specs.Prelude.{◌≡◌, ℕ, ◌<◌, List, length, slice_index}
use Rattle.at_log.specs.Prelude.{BookTerms, Knowledge, Part, own_part, with_part, MayEnter, prefix_of, HasView}
use Rattle.at_log.specs.declared.record.Record.{Record}
use Rattle.at_log.specs.ClosingTerms.{published_by}

-- the seat may publish this record next: it keeps the laws after all that the seat has seen
pub record MayAppend (b : BookTerms) (v : Knowledge) (x : Record) : Type 0 where
  pub view : HasView b v.seen (published_by v.first x)
  pub entry : MayEnter b v (prefix_of x.view v.seen) x.entry

-- the part with these words in place of those stored
abbrev pub with_stored : Part → List ℕ → Part
with_stored q stored = record q { stored = stored }

-- the first j words are stored, and nothing else has changed
pub record IsStoring (before after : Knowledge) (words : List ℕ) (j : ℕ) : Type 0 where
  pub stored : List ℕ
  pub sized : length stored ≡ length (own_part before).stored
  pub same : after ≡ with_part before (with_stored (own_part before) stored)
  pub words_so_far : (k : ℕ) → k < j → slice_index stored k ≡ slice_index words k
