-- A load of a word of a record that was seen.
use Rattle.std.specs.Prelude.{ℕ, ◌<◌}
use Rattle.at_board.specs.Prelude.{BookTerms}
use Rattle.at_board.specs.Knowledge.Records.{SeesRecord}
use Rattle.at_board.specs.Words.Addresses.{record_width}
use Rattle.at_board.specs.declared.knowledge.Knowledge.{Knowledge}

-- the seat has seen this record, and a record has a word of this number
pub record MayLoadWord (b : BookTerms) (v : Knowledge) (p i j : ℕ) : Type 0 where
  pub seen : SeesRecord v p i
  pub word : j < record_width b
