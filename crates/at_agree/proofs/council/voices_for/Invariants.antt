use Rattle.std.proofs.Common.{◌≡◌, ◌++◌, All, map}
use Rattle.at_agree.proofs.Prelude.{HasNotProposed}
use Rattle.at_agree.proofs.council.voices_for.Given as goal

abbrev pub invariant-loop-pass : goal.invariant-loop-pass
invariant-loop-pass l = record {
  next : (goal.iterator-loop-pass).can_next l.pass-iterator;
  finite : (goal.iterator-loop-pass).is_finite l.pass-iterator;
  passes : l.fn.passes.items ≡ l.yielded ++ l.pass-iterator.rest.items;
  voices : map (λ v. v.pass) l.voices.items ≡ l.yielded;
  unproposed : All HasNotProposed l.voices.items;
}
