-- Loads of a record that are made one word a turn.
use Rattle.std.specs.Prelude.{ℕ, ◌+◌, ◌++◌, ◌==◌, List, [], ◌∷◌, length, Option, None, Some, if◌then◌else◌}
use Rattle.at_machines.specs.Prelude.{RecordWordTerms, seen_word, Knowledge, BoardStep, BoardWord, RECORD_WORDS}

-- a load by what its seat knows, by the record's process and its number there, and by how many words are loaded, and the words as they were
-- loaded
pub record LoadingTerms : Type 0 where
  pub knows : Knowledge
  pub process : ℕ
  pub number : ℕ
  pub loaded : ℕ
  pub words : List RecordWordTerms

-- with these words, and at the start
abbrev pub loading_with : Knowledge → ℕ → ℕ → List RecordWordTerms → LoadingTerms
loading_with v p i words = record { knows = v; process = p; number = i; loaded = length words; words = words }

abbrev pub starting_loading : Knowledge → ℕ → ℕ → LoadingTerms
starting_loading v p i = loading_with v p i []

-- the load after one more turn, which has loaded word j of that very record
abbrev pub loading_after : LoadingTerms → ℕ → LoadingTerms
loading_after l j = record l { loaded = l.loaded + 1; words = l.words ++ seen_word l.knows l.process l.number j ∷ [] }

-- the next load of an entry, and of a view, whose words stand after the entry's: none after the last word
abbrev pub entry_step : LoadingTerms → Option BoardStep
entry_step l = if l.loaded == RECORD_WORDS then None else Some (BoardStep.Load (BoardWord.Record l.process l.number l.loaded))

abbrev pub view_step : LoadingTerms → Option BoardStep
view_step l =
    if l.loaded == l.knows.book.processes then None else Some (BoardStep.Load (BoardWord.Record l.process l.number (RECORD_WORDS + l.loaded)))
