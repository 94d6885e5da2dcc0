use Rattle.std.proofs.Common.{◌≡◌, ◌+◌, ◌-◌, ◌≤◌, Bool, true, List, ℕ, ◌++◌, length, Option}
use Rattle.at_io.proofs.Prelude.{most_file_bytes, SameFiles}
use Rattle.at_io.proofs.reading.read_whole.Given as goal

-- what was read and what is left are the chosen file, and no fault was counted
pub record Reads
    (told tells : Bool) (before after : List ℕ → Option (List ℕ))
    (count now : ℕ) (whole read left : List ℕ) (limit : ℕ) : Type 0 where
  pub files : SameFiles told tells before after
  pub kept : now ≡ count
  pub size : length read ≤ limit + 1
  pub bytes : told ≡ true → whole ≡ read ++ left

abbrev pub invariant-loop-buffer : goal.invariant-loop-buffer
invariant-loop-buffer g l =
    Reads
    (g.F.Shelf.tells l.fn.shelf)
    (g.F.Shelf.tells l.shelf)
    (g.F.Shelf.file l.fn.shelf)
    (g.F.Shelf.file l.shelf)
    (g.F.Shelf.faults l.fn.shelf)
    (g.F.Shelf.faults l.shelf)
    (g.F.Shelf.rest l.fn.shelf)
    l.out.items
    (g.F.Shelf.rest l.shelf)
    most_file_bytes

abbrev pub decreases-loop-buffer : goal.decreases-loop-buffer
decreases-loop-buffer g l = most_file_bytes + 1 - length l.out.items
