-- The records that a seat has seen, and their words.
use Rattle.std.specs.Prelude.{◌≡◌, ℕ, ◌<◌, slice_index}
use Rattle.at_board.specs.Prelude.{publication_at, count_of, publications_of}
use Rattle.at_board.specs.Words.Packed.{IsForm, record_words}
use Rattle.at_board.specs.declared.knowledge.Knowledge.{Knowledge}

-- the seat has seen record i of the process
abbrev pub SeesRecord : Knowledge → ℕ → ℕ → Type 0
SeesRecord v p i = i < count_of p v.seen

-- the number is word j of record i of the process
abbrev pub IsRecordWord : Knowledge → ℕ → ℕ → ℕ → ℕ → Type 0
IsRecordWord v p i j w = w ≡ slice_index (record_words (publication_at (publications_of p v.seen) i)) j

-- a word of a record as a load gave it: whose record, its number among those of the process, which word of it, and what it is
pub record RecordWordTerms : Type 0 where
  pub process : ℕ
  pub number : ℕ
  pub word : ℕ
  pub value : ℕ

-- word j of record i of the process, as a load of it gives it
abbrev pub seen_word : Knowledge → ℕ → ℕ → ℕ → RecordWordTerms
seen_word v p i j = record {
  process = p;
  number = i;
  word = j;
  value = slice_index (record_words (publication_at (publications_of p v.seen) i)) j;
}

-- the numbers of each record that is seen fit their words
abbrev pub SeesForms : Knowledge → Type 0
SeesForms v = (p i : ℕ) → SeesRecord v p i → IsForm (publication_at (publications_of p v.seen) i).entry
