use Rattle.std.proofs.Common.{◌≡◌, ◌+◌, ◌++◌, ◌∙◌, take, length, List, ℕ, arith, append_assoc}
use Rattle.at_io.proofs.Prelude.{common_steps, slice_range, take-add, take_rest}
use Rattle.at_io.proofs.writing.put_all.Goals as goal

-- a prefix, and then a prefix of the rest, are a longer prefix
take-further : (old mid new bytes : List ℕ) (at n : ℕ) →
    mid ≡ old ++ take at bytes →
    new ≡ mid ++ take n (slice_range bytes at (length bytes)) →
    new ≡ old ++ take (at + n) bytes
take-further old mid new bytes at n before piece =
    rw (take-add, ← append_assoc) (cc (before, piece, take_rest bytes at))

pub loop-at-preserved : goal.loop-at-preserved
loop-at-preserved g c =
    record {
      within = omega (arith, c.in-Ok.ensures.bound);
      as_told = c.in-Ok.ensures.as_told ∙ c.loop-at.invariant.as_told;
      kept = c.in-Ok.ensures.kept ∙ c.loop-at.invariant.kept;
      taken = λ told.
          take-further _ _ _ _ _ _
          (c.loop-at.invariant.taken told)
          (c.in-Ok.ensures.prefix (c.loop-at.invariant.as_told ∙ told));
    }

pub returns-clause-fault : goal.returns-clause-fault
returns-clause-fault g c = tt

pub returns-clause-prefix : goal.returns-clause-prefix
returns-clause-prefix g c told = tt

pub returns-in_default-clause-fault : goal.returns-in_default-clause-fault
returns-in_default-clause-fault c = grind (arith, common_steps)

pub returns-in_default-clause-later : goal.returns-in_default-clause-later
returns-in_default-clause-later c = grind (arith, common_steps)

pub returns-in_default-clause-prefix : goal.returns-in_default-clause-prefix
returns-in_default-clause-prefix c = grind (arith, common_steps)

pub loop-at-smaller : goal.loop-at-smaller
loop-at-smaller c = grind (arith, common_steps)

pub returns-in_default-clause-as_told : goal.returns-in_default-clause-as_told
returns-in_default-clause-as_told c = grind (arith, common_steps)

pub returns-clause-all : goal.returns-clause-all
returns-clause-all c = grind (arith, common_steps)
