use Rattle.std.proofs.Common.{◌≡◌, List, [], ◌∷◌, ◌++◌, All, length, map, ap, arith, subst, sym, ◌∙◌, append_assoc}
use Rattle.at_agree.proofs.Prelude.{common_steps, map-append, All-push, PassTerms, HasNotProposed, VoiceTerms}
use Rattle.at_agree.proofs.NewVoices.{AreNewVoices-all, IsNewPass-at, IsVoice-new}
use Rattle.at_agree.proofs.council.voices_for.Goals as goal

pub invariant_of-push : goal.invariant_of-push
invariant_of-push c =
    let done = c.loop-pass.yielded in
    let pass : PassTerms = c.in-Some.pass in
    let left = c.next.new.self.rest.items in
    let parts : c.args.passes.items ≡ done ++ pass ∷ left =
    c.loop-pass.invariant.passes ∙ ap (λ (ps : List PassTerms). done ++ ps) c.in-Some.ensures.steps.0 in
    let new = IsNewPass-at c.args.ledger.now c.args.passes.items done left pass c.requires parts in
    IsVoice-new c.args.ledger.now (length done) pass c.new.result.items new.0 new.1 c.new.ensures

pub loop-pass-preserved : goal.loop-pass-preserved
loop-pass-preserved c =
    let done = c.loop-pass.yielded in
    let pass : PassTerms = c.in-Some.pass in
    let left = c.next.new.self.rest.items in
    let voices : List VoiceTerms = c.loop-pass.voices.items in
    let voice : VoiceTerms = record { pass = pass; receipts = c.new.result.items } in
    let parts : c.args.passes.items ≡ done ++ pass ∷ left =
    c.loop-pass.invariant.passes ∙ ap (λ (ps : List PassTerms). done ++ ps) c.in-Some.ensures.steps.0 in
    let more : c.push.new.self.items ≡ voices ++ voice ∷ [] = c.in_ok-push.ensures.items in
    record {
      next = tt;
      finite = tt;
      passes = parts ∙ sym (append_assoc done (pass ∷ []) left);
      voices = ap (λ (vs : List VoiceTerms). map (λ (v : VoiceTerms). v.pass) vs) more
          ∙ (map-append (λ (v : VoiceTerms). v.pass) voices (voice ∷ []) ∙ ap (λ (ps : List PassTerms). ps ++ pass ∷ []) c.loop-pass.invariant.voices);
      unproposed = subst (All HasNotProposed) (sym more)
          (All-push HasNotProposed voices voice c.loop-pass.invariant.unproposed c.new.ensures);
    }

pub returns : goal.returns
returns c =
    let all : c.args.passes.items ≡ c.loop-pass.yielded = grind (arith, common_steps) in
    AreNewVoices-all c.args.ledger.now c.args.passes.items c.loop-pass.voices.items c.requires
    (c.loop-pass.invariant.voices ∙ sym all) c.loop-pass.invariant.unproposed
