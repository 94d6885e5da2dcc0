-- The state that a board starts with is sound.
use Rattle.std.proofs.Common.{[], None, arith}
use Rattle.at_history.proofs.Prelude.{BookTerms, BoardState, Sound}

-- nothing is published, decided, announced or held
abbrev pub starting_state : BoardState
starting_state = record { published = []; cells = λ a. []; rows = λ a slot. []; held = λ p. None; heard = λ a slot. 0; seen_rows = λ a slot. [] }

pub Sound-starting : (b : BookTerms) → Sound b starting_state
Sound-starting b = record {
  views = λ m within. absurd (omega arith);
  entries = λ m within. absurd (omega arith);
  own_room = λ p. omega arith;
  decisions = λ a r within. absurd (omega arith);
  numbers = λ a r within. absurd (omega arith);
  row_room = λ a slot. omega arith;
  requests = λ a slot i within. absurd (omega arith);
  published = λ a r within. absurd (omega arith);
  one_holder = λ p q c one other. cc;
  held_decided = λ p c held. cc;
}
