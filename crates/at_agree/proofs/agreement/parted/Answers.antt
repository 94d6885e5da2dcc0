use Rattle.std.proofs.Common.{◌++◌, List, [], ◌∷◌, Vec, ap, sym, ◌∙◌}
use Rattle.at_agree.proofs.Prelude.{Global, map-append, All-push, contents_of, Receipt, PassTerms, StandsByItself, Vote}
use Rattle.at_agree.proofs.agreement.parted.Goals as goal

pub loop-vote-preserved : goal.loop-vote-preserved
loop-vote-preserved c =
    let done : List Vote = c.loop-vote.yielded in
    let x : Vote = c.in-Some.vote in
    let pass : Vote → PassTerms = λ y. y.voice.pass in
    let told : Vote → List Receipt = λ y. y.voice.receipts in
    let items : Vec Receipt Global → List Receipt = λ v. v.items in
    record {
      passes = c.in_ok-push.ensures.items
          ∙ ((λ t. c.loop-vote.invariant.passes t ++ c.in_ok-pass.ensures.pass t ∷ []) ∙ sym (map-append pass done (x ∷ [])));
      receipts = ap contents_of c.in_ok-push-2.ensures.items
          ∙ (map-append items c.loop-vote.receipts.items (c.in_ok-pass.told ∷ [])
          ∙ ((λ t. c.loop-vote.invariant.receipts t ++ c.in_ok-pass.ensures.receipts t ∷ []) ∙ sym (map-append told done (x ∷ []))));
      stands = All-push StandsByItself done x c.loop-vote.invariant.stands
          (record { stands = c.split.ensures.stands; past = c.split.ensures.past });
    }
