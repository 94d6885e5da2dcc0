use Rattle.std.proofs.Common.{◌≡◌, ◌++◌, map, take}
use Rattle.at_agree.proofs.Prelude.{values_of}
use Rattle.at_agree.proofs.votes.votes_of.Given as goal

abbrev pub invariant-loop-value : goal.invariant-loop-value
invariant-loop-value l = record {
  voices : map (λ x. x.voice) l.votes.items ++ l.rest.rest.items ≡ l.fn.voices.items;
  values : values_of l.votes.items ≡ take l.value-index l.values;
}
