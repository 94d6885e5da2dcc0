use Rattle.std.proofs.Common.{◌≡◌, ◌++◌, ℕ, List, [], ◌∷◌, ap, append_assoc, arith, get_or, sym, ◌∙◌}
use Rattle.at_agree.proofs.Prelude.{map-append, nil_from_length, take_all, take_more, values_of, VoiceTerms, Vote}
use Rattle.at_agree.proofs.AllVotes.{AllMayVote-all, voice_left, voices_of}
use Rattle.at_agree.proofs.votes.votes_of.Goals as goal

pub returns : goal.returns
returns c =
    let values : List ℕ = c.args.values.now in
    AllMayVote-all c.args.council.now values c.args.voices.items c.loop-value.rest.rest.items c.loop-value.votes.items
    c.requires.voices c.requires.count c.requires.small c.loop-value.invariant.voices
    (c.loop-value.invariant.values ∙ take_all c.loop-value.value-index values c.loop-value-test.false)

pub unreachable-requires : goal.unreachable-requires
unreachable-requires c =
    let rest : List VoiceTerms = c.loop-value.rest.rest.items in
    let none : rest ≡ [] = nil_from_length rest (omega (arith, c.loop-value.rest.rest.ok.0, c.in_default.ensures.cases.0)) in
    voice_left c.loop-value.votes.items rest c.args.voices.items c.args.values.now c.loop-value.value-index
    c.loop-value.invariant.voices c.loop-value.invariant.values c.loop-value-test.true c.requires.count none

pub loop-value-preserved : goal.loop-value-preserved
loop-value-preserved c =
    let votes : List Vote = c.loop-value.votes.items in
    let values : List ℕ = c.args.values.now in
    let rest : List VoiceTerms = c.next.new.self.rest.items in
    let n = c.loop-value.value-index in
    let x : Vote = record { voice = c.in-Some.voice; value = get_or values n 0; answer = 0 } in
    let more : c.push.new.self.items ≡ votes ++ x ∷ [] = c.in_ok-push.ensures.items in
    record {
      voices = ap (λ (ps : List Vote). voices_of ps ++ rest) more
          ∙ (ap (λ (vs : List VoiceTerms). vs ++ rest) (map-append (λ (y : Vote). y.voice) votes (x ∷ []))
          ∙ (append_assoc (voices_of votes) (x.voice ∷ []) rest
          ∙ (ap (λ (vs : List VoiceTerms). voices_of votes ++ vs) (sym c.in-Some.ensures.items) ∙ c.loop-value.invariant.voices)));
      values = ap values_of more
          ∙ (map-append (λ (y : Vote). y.value) votes (x ∷ [])
          ∙ (ap (λ (vs : List ℕ). vs ++ x.value ∷ []) c.loop-value.invariant.values ∙ sym (take_more values n 0 c.loop-value-test.true)));
    }
