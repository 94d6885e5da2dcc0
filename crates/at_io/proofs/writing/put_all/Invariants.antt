use Rattle.std.proofs.Common.{◌≡◌, ◌-◌, ◌≤◌, Bool, true, List, ℕ, ◌++◌, length, take}
use Rattle.at_io.proofs.writing.put_all.Given as goal

-- the bytes below the index were taken, and no fault was counted
pub record Written
    (told tells : Bool) (before now : ℕ) (old new bytes : List ℕ) (at : ℕ) : Type 0 where
  pub within : at ≤ length bytes
  pub as_told : tells ≡ told
  pub kept : now ≡ before
  pub taken : told ≡ true → new ≡ old ++ take at bytes

abbrev pub invariant-loop-at : goal.invariant-loop-at
invariant-loop-at g l =
    Written
    (g.O.Sink.tells l.fn.sink)
    (g.O.Sink.tells l.sink)
    (g.O.Sink.faults l.fn.sink)
    (g.O.Sink.faults l.sink)
    (g.O.Sink.taken l.fn.sink)
    (g.O.Sink.taken l.sink)
    l.bytes
    l.at

abbrev pub decreases-loop-at : goal.decreases-loop-at
decreases-loop-at g l = length l.bytes - l.at
