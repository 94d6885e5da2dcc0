use Rattle.std.proofs.Common.{◌≡◌, Bool, true, List, Vec, ℕ, ◌++◌, take}
use Rattle.at_commands.proofs.Prelude.{Global, joined}
use Rattle.at_commands.proofs.ending.write_pieces.Given as goal

-- the pieces before the index were taken, and no fault was counted
pub record WrittenPieces (told tells : Bool) (before now : ℕ) (old new : List ℕ) (pieces : List (Vec ℕ Global)) (i : ℕ) : Type 0 where
  pub as_told : tells ≡ told
  pub kept : now ≡ before
  pub taken : told ≡ true → new ≡ old ++ joined (take i pieces)

abbrev pub invariant-loop-piece : goal.invariant-loop-piece
invariant-loop-piece g l =
    WrittenPieces (g.O.Sink.tells l.fn.out) (g.O.Sink.tells l.out) (g.O.Sink.faults l.fn.out) (g.O.Sink.faults l.out)
    (g.O.Sink.taken l.fn.out) (g.O.Sink.taken l.out) l.pieces l.piece-index
