-- A load of a length.
use Rattle.std.specs.Prelude.{◌≡◌, ℕ, ◌+◌, length, slice_set}
use Rattle.at_board.specs.Prelude.{BookTerms, IsHistory, IsPrefix, count_of}
use Rattle.at_board.specs.Knowledge.Agreement.{AgreesWithSeen}
use Rattle.at_board.specs.Knowledge.Parts.{loads_of, own_part, with_part}
use Rattle.at_board.specs.declared.knowledge.Part.{Part}
use Rattle.at_board.specs.declared.knowledge.Knowledge.{Knowledge}

-- one more load of a process's length gave this number
abbrev pub with_load : Part → ℕ → ℕ → Part
with_load q p n = record q { loads = slice_set q.loads p (record { times = (loads_of q p).times + 1; last = n }) }

-- a load of a length: the seat, which counts its loads of each length, has then seen a list that begins with the old one and
-- has so many publications of the process
pub record LoadsLength (b : BookTerms) (before after : Knowledge) (p n : ℕ) : Type 0 where
  pub same : after ≡ with_part (record before { seen = after.seen }) (with_load (own_part before) p n)
  pub lengths : length (own_part before).loads ≡ b.processes
  pub more : IsPrefix before.seen after.seen
  pub counted : count_of p after.seen ≡ n
  pub own : count_of before.first after.seen ≡ (own_part before).published
  pub history : IsHistory b after.seen
  pub agrees : AgreesWithSeen after
