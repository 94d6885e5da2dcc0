-- A store of a word of the seat's next request on an account.
use Rattle.std.specs.Prelude.{◌≡◌, ℕ, slice_set, ◌<◌, length}
use Rattle.at_board.specs.Prelude.{BookTerms, HasSlot}
use Rattle.at_board.specs.Knowledge.Parts.{asking_on, own_part, with_asking}
use Rattle.at_board.specs.declared.knowledge.Asking.{Asking}
use Rattle.at_board.specs.declared.knowledge.Knowledge.{Knowledge}

-- a word of the next request on an account is stored
abbrev pub with_request_word : Asking → ℕ → ℕ → Asking
with_request_word w j n = record w { stored = slice_set w.stored j n }

abbrev pub StoresRequestWord : Knowledge → Knowledge → ℕ → ℕ → ℕ → Type 0
StoresRequestWord before after a j n = after ≡ with_asking before a (with_request_word (asking_on (own_part before) a) j n)

-- the seat's process shares the account, and has room for one more request there
pub record MayStoreRequest (b : BookTerms) (v : Knowledge) (a slot : ℕ) : Type 0 where
  pub slot_in : HasSlot b v.first a slot
  pub room : length (asking_on (own_part v) a).announced < b.request_room
