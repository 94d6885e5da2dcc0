use Rattle.std.proofs.Common.{◌≡◌, All, map}
use Rattle.at_agree.proofs.Prelude.{contents_of, StandsByItself}
use Rattle.at_agree.proofs.agreement.parted.Given as goal

abbrev pub invariant-loop-vote : goal.invariant-loop-vote
invariant-loop-vote l = record {
  passes : l.passes.items ≡ map (λ x. x.voice.pass) l.yielded;
  receipts : contents_of l.receipts.items ≡ map (λ x. x.voice.receipts) l.yielded;
  stands : All StandsByItself l.yielded;
}
