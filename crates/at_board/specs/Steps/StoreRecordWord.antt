-- A store of a word of the seat's next record.
use Rattle.std.specs.Prelude.{ℕ, ◌<◌, ◌≡◌, slice_set}
use Rattle.at_board.specs.Prelude.{BookTerms, log_room_of}
use Rattle.at_board.specs.Knowledge.Parts.{own_part, with_part}
use Rattle.at_board.specs.Words.Addresses.{record_width}
use Rattle.at_board.specs.declared.knowledge.Part.{Part}
use Rattle.at_board.specs.declared.knowledge.Knowledge.{Knowledge}

-- the log of the seat's process has room for one more record, and a record has a word of this number
pub record MayStoreWord (b : BookTerms) (v : Knowledge) (j : ℕ) : Type 0 where
  pub room : (own_part v).published < log_room_of b v.first
  pub word : j < record_width b

-- a word of the next record is stored
abbrev pub with_word : Part → ℕ → ℕ → Part
with_word q j w = record q { stored = slice_set q.stored j w }

-- a store of a word of the seat's next record
abbrev pub StoresWord : Knowledge → Knowledge → ℕ → ℕ → Type 0
StoresWord before after j w = after ≡ with_part before (with_word (own_part before) j w)
