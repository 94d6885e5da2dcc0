-- A note: what a seat hands out of what it has seen.
use Rattle.std.specs.Prelude.{◌≡◌, [], length}
use Rattle.at_board.specs.Prelude.{IsBook, IsHistory}
use Rattle.at_board.specs.Knowledge.Agreement.{SeesInRange}
use Rattle.at_board.specs.declared.knowledge.Knowledge.{Knowledge}

-- all that a seat has seen, with no process's part
abbrev pub noted : Knowledge → Knowledge
noted v = record v { parts = [] }

-- a note has no part, what it has seen is a history, and its requests and decisions are in range
pub record IsNote (v : Knowledge) : Type 0 where
  pub no_part : length v.parts ≡ 0
  pub book : IsBook v.book
  pub history : IsHistory v.book v.seen
  pub in_range : SeesInRange v
