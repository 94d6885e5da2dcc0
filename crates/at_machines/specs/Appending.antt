-- Appends that are made one store a turn.
use Rattle.std.specs.Prelude.{ℕ, ◌+◌, ◌==◌, slice_index, Option, None, Some, if◌then◌else◌}
use Rattle.at_machines.specs.Prelude.{BookTerms, Publication, Knowledge, BoardStep, BoardWord, own_part, StoresWord, record_width, record_words, Record, published_by}

-- an append by what its seat knew at the start and after the last turn, by its record, and by how many stores were made
pub record AppendingTerms : Type 0 where
  pub start : Knowledge
  pub mark : Knowledge
  pub rec : Record
  pub stored : ℕ

abbrev pub starting_appending : Knowledge → Record → AppendingTerms
starting_appending v x = record { start = v; mark = v; rec = x; stored = 0 }

-- the append after one more turn
abbrev pub appending_after : AppendingTerms → Knowledge → AppendingTerms
appending_after a v = record { start = a.start; mark = v; rec = a.rec; stored = a.stored + 1 }

-- what it publishes
abbrev pub publication_of : AppendingTerms → Publication
publication_of a = published_by a.start.first a.rec

-- how many records the next store publishes, of a record with so many words of which so many are stored: one after the last word
abbrev pub published_after : ℕ → ℕ → ℕ
published_after width stored = if stored == width then 1 else 0

-- the next store of a record of which so many words are stored: of its next word, and after the last one of the length of the seat's process
abbrev pub store_step : BookTerms → Knowledge → ℕ → BoardStep
store_step b v stored =
    if stored == record_width b then BoardStep.Store (BoardWord.Length v.first)
    else BoardStep.Store (BoardWord.Record v.first (own_part v).published stored)

-- the next store of an append: none where its record is published
abbrev pub append_step : BookTerms → AppendingTerms → Option BoardStep
append_step b a = if a.stored == record_width b + 1 then None else Some (store_step b a.mark a.stored)

-- the seat has then stored the next word of the record, and nothing else
abbrev pub StoresNextWord : AppendingTerms → Knowledge → Type 0
StoresNextWord a v = StoresWord a.mark v a.stored (slice_index (record_words (publication_of a)) a.stored)
