-- Heads of records and their words.
use Rattle.std.specs.Prelude.{ℕ, ◌+◌, ◌*◌, ◌^◌, ◌<◌}
use Rattle.at_base.specs.declared.head.Head.{Head}

-- the numbers of a head fit its word
pub record HeadInRange (h : Head) : Type 0 where
  pub kind : h.kind < 2
  pub from : h.from < 2 ^ 16
  pub to : h.to < 2 ^ 16
  pub round : h.round < 2 ^ 31

-- the kind, and then the account, the target and the round
abbrev pub head_word : Head → ℕ
head_word h = h.kind + 2 * h.from + 2 ^ 17 * h.to + 2 ^ 33 * h.round
