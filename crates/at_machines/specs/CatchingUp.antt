-- Totals that catch up with counts, one load a turn.
use Rattle.std.specs.Prelude.{◌≡◌, ℕ, ◌+◌, ◌-◌, ◌*◌, ◌<◌, ◌++◌, ◌==◌, List, [], ◌∷◌, slice_index, slice_set, sum, Option, Some, None, if◌then◌else◌}
use Rattle.at_machines.specs.Prelude.{BookTerms, RecordWordTerms, seen_word, MayLoadWord, Knowledge, BoardStep, BoardWord, RECORD_WORDS, TotalSums}
use Rattle.at_machines.specs.Loading.{LoadingTerms}

-- totals that catch up, by the counts that they are to reach, by what their seat knows, by what they have counted after the last turn,
-- by the process of the next record, and by how many of its words are loaded, and these
pub record CatchingUpTerms : Type 0 where
  pub counts : List ℕ
  pub knows : Knowledge
  pub totals : TotalSums
  pub process : ℕ
  pub loaded : ℕ
  pub words : List RecordWordTerms

-- the loads that are left: of each word of the records that the counts count and the totals don't
abbrev pub loads_left : CatchingUpTerms → ℕ
loads_left c = RECORD_WORDS * (sum c.counts - sum c.totals.upto) - c.loaded

-- the next record is the first one of its process that isn't counted
abbrev pub number_left : CatchingUpTerms → ℕ
number_left c = slice_index c.totals.upto c.process

-- the next load: of the next word of that record, and none where all are counted
abbrev pub catch_step : CatchingUpTerms → Option BoardStep
catch_step c = if loads_left c == 0 then None else Some (BoardStep.Load (BoardWord.Record c.process (number_left c) c.loaded))

-- some load is left, and the seat has seen that record
abbrev pub MayLoadLeft : BookTerms → Knowledge → CatchingUpTerms → Type 0
MayLoadLeft b v c = (0 < loads_left c) × MayLoadWord b v c.process (number_left c) c.loaded

-- the process is the first one of which the counts count more than the totals
pub record IsFirstLeft (counts upto : List ℕ) (p : ℕ) : Type 0 where
  pub left : slice_index upto p < slice_index counts p
  pub done : (q : ℕ) → q < p → slice_index upto q ≡ slice_index counts q

-- one more record is counted: by process, and then by rising number
pub record CountsNext (counts : List ℕ) (was now : TotalSums) : Type 0 where
  pub process : ℕ
  pub first : IsFirstLeft counts was.upto process
  pub upto : now.upto ≡ slice_set was.upto process (slice_index was.upto process + 1)

-- the next word of the next record is loaded, and with the last one the record is counted
abbrev pub LoadsNextWord : CatchingUpTerms → TotalSums → Type 0
LoadsNextWord c now = (c.loaded + 1 < RECORD_WORDS → now ≡ c.totals) × (c.loaded + 1 ≡ RECORD_WORDS → CountsNext c.counts c.totals now)

-- after that comes the record's next word, beside those that are loaded, and after its last one the first word of another
abbrev pub FollowsLoad : CatchingUpTerms → CatchingUpTerms → Type 0
FollowsLoad c d =
    (c.loaded + 1 < RECORD_WORDS → d ≡ record c {
      loaded = c.loaded + 1;
      words = c.words ++ seen_word c.knows c.process (number_left c) c.loaded ∷ [];
    })
    × (c.loaded + 1 ≡ RECORD_WORDS → (d.loaded ≡ 0) × (d.words ≡ []))

-- how many words of a record are loaded, if one is, and these
abbrev pub loaded_of : Option LoadingTerms → ℕ
loaded_of None = 0
loaded_of (Some l) = l.loaded

abbrev pub words_held : Option LoadingTerms → List RecordWordTerms
words_held None = []
words_held (Some l) = l.words
