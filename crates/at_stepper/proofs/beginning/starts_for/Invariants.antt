use Rattle.std.proofs.Common.{◌≡◌, ℕ, ◌<◌, ◌++◌, [], length, get_or}
use Rattle.at_stepper.proofs.Prelude.{contents_of, HasMemoryFor, passes_in, Start}
use Rattle.at_stepper.proofs.beginning.starts_for.Given as goal

-- a start is made of each pass so far
abbrev pub invariant-loop-pass : goal.invariant-loop-pass
invariant-loop-pass l = record {
  next : (goal.iterator-loop-pass).can_next l.pass-iterator;
  finite : (goal.iterator-loop-pass).is_finite l.pass-iterator;
  passes : l.fn.passes.items ≡ passes_in l.starts.items ++ l.pass-iterator.rest.items;
  room : (p : ℕ) (d : Start) → p < length l.starts.items → HasMemoryFor (get_or l.starts.items p d).receipts (length (get_or (contents_of l.files) p []));
}
