use Rattle.std.proofs.Common.{◌≡◌, ◌++◌, [], List, ℕ, Result, Ok, Err, length, ◌∙◌, arith, length-take}
use Rattle.at_io.proofs.Prelude.{common_steps}
use Rattle.at_io.proofs.reading.read_whole.Goals as goal

-- a value is no error. It is stated over plain variables, since `cc` looks at all that is known where it is called
Ok≢Err : {A E : Type 0} (x : A) (e : E) → ◌≡◌ {A = Result A E} (Ok x) (Err e) → ⊥
Ok≢Err x e is = cc

-- where nothing was left and nothing was added, all was read before
read-before : (whole read left now rest : List ℕ) →
    whole ≡ read ++ left →
    left ≡ [] →
    read ++ left ≡ now ++ rest →
    length now ≡ length read →
    whole ≡ now
read-before whole read left now rest all none same long = grind (arith, common_steps)

pub returns-then-ended-clause-contents : goal.returns-then-ended-clause-contents
returns-then-ended-clause-contents g c told =
    let before : g.F.Shelf.tells c.loop-buffer.shelf ≡ g.F.Shelf.tells c.args.shelf.now =
    c.loop-buffer.invariant.files.as_told in
    let none = c.in-Ok.ensures.end (before ∙ told) c.if-ended.true in
    read-before _ _ _ _ _
    (c.loop-buffer.invariant.bytes told)
    none
    (c.in-Ok.ensures.bytes (before ∙ told))
    (omega (arith, c.in-Ok.ensures.count))

pub returns-then-ended-clause-size : goal.returns-then-ended-clause-size
returns-then-ended-clause-size g c = omega (arith, c.in-Ok.ensures.count)

pub returns-then-ended-clause-failed : goal.returns-then-ended-clause-failed
returns-then-ended-clause-failed g c is = absurd (Ok≢Err _ _ is)

pub returns-then-ended-clause-too_long : goal.returns-then-ended-clause-too_long
returns-then-ended-clause-too_long g c told is = absurd (Ok≢Err _ _ is)

pub loop-buffer-smaller : goal.loop-buffer-smaller
loop-buffer-smaller g c = omega (arith, c.in-Ok.ensures.count)

pub loop-buffer-preserved : goal.loop-buffer-preserved
loop-buffer-preserved g c =
    record {
      files = record {
        as_told = c.in-Ok.ensures.files.as_told ∙ c.loop-buffer.invariant.files.as_told;
        files = c.in-Ok.ensures.files.files ∙ c.loop-buffer.invariant.files.files;
      };
      kept = c.in-Ok.ensures.kept (λ is. Ok≢Err _ _ is) ∙ c.loop-buffer.invariant.kept;
      size = omega (arith, c.in-Ok.ensures.count, c.in-Ok.ensures.bound, length-take {A = ℕ});
      bytes = λ told.
          c.loop-buffer.invariant.bytes told
          ∙ c.in-Ok.ensures.bytes (c.loop-buffer.invariant.files.as_told ∙ told);
    }

pub read_some-requires : goal.read_some-requires
read_some-requires c = grind (arith, common_steps)

pub returns-clause-failed : goal.returns-clause-failed
returns-clause-failed c = grind (arith, common_steps)

pub returns-then-ended-clause-later : goal.returns-then-ended-clause-later
returns-then-ended-clause-later c = grind (arith, common_steps)

pub returns-in-Err-clause-too_long : goal.returns-in-Err-clause-too_long
returns-in-Err-clause-too_long c = grind (arith, common_steps)

pub returns-in-Err-clause-failed : goal.returns-in-Err-clause-failed
returns-in-Err-clause-failed c = grind (arith, common_steps)

pub returns-in-Err-clause-kept : goal.returns-in-Err-clause-kept
returns-in-Err-clause-kept c = grind (arith, common_steps)

pub returns-in-Err-clause-files : goal.returns-in-Err-clause-files
returns-in-Err-clause-files c = grind (arith, common_steps)

pub returns-then-ended-clause-kept : goal.returns-then-ended-clause-kept
returns-then-ended-clause-kept c = grind (arith, common_steps)

pub returns-in-Err-clause-later : goal.returns-in-Err-clause-later
returns-in-Err-clause-later c = grind (arith, common_steps)

pub returns-then-ended-clause-files : goal.returns-then-ended-clause-files
returns-then-ended-clause-files c = grind (arith, common_steps)

pub slice_bounds-read_some-end : goal.slice_bounds-read_some-end
slice_bounds-read_some-end c = grind (arith, common_steps)
