use Rattle.std.proofs.Common.{◌≡◌, ◌+◌, ◌++◌, [], ◌∷◌, length, ap, sym, ◌∙◌}
use Rattle.at_machines.proofs.Prelude.{seen_word, Knowledge, RECORD_WORDS, IsLoadingSo, LoadingTerms, loading_with}
use Rattle.at_machines.proofs.LoadingLaws.{IsLoadingSo-more}
use Rattle.at_machines.proofs.loading_view.LoadingView.turn.Goals.{After-push}
use Rattle.at_machines.proofs.loading_view.LoadingView.turn.Goals as goal

-- the load after the step
kept : (c : After-push)
    → IsLoadingSo (loading_with c.self.inside.seat.value.knows c.self.inside.process c.self.inside.number c.push.new.self.items) RECORD_WORDS
kept c =
    let i = c.self.inside in
    let v : Knowledge = i.seat.value.knows in
    let known : c.args.seat.now.knows ≡ v = c.requires.mark ∙ sym (ap (λ (t : LoadingTerms). t.knows) c.self.view_is) in
    let word : c.load_record_word-word.result ≡ seen_word v i.process i.number (RECORD_WORDS + length i.words.items) =
    c.load_record_word-word.ensures.word
    ∙ (ap (λ (k : Knowledge). seen_word k i.process i.number (RECORD_WORDS + c.len.result)) known
    ∙ ap (λ q. seen_word v i.process i.number (RECORD_WORDS + q)) c.len.ensures.value) in
    IsLoadingSo-more v i.process i.number RECORD_WORDS i.words.items c.push.new.self.items c.self.invariant.1
    (c.push.ensures.items ∙ ap (λ w. i.words.items ++ w ∷ []) word)

pub invariant_of-self : goal.invariant_of-self
invariant_of-self c = (c.self.invariant.0, kept (goal.at.invariant_of-self c).After-push)

pub invariant_of-self-2 : goal.invariant_of-self-2
invariant_of-self-2 c = (c.self.invariant.0, kept (goal.at.invariant_of-self-2 c).After-push)
