use Rattle.std.proofs.Common.{◌≡◌, ◌+◌, ◌++◌, [], ◌∷◌, length, ap, sym, ◌∙◌, zero-add}
use Rattle.at_machines.proofs.Prelude.{seen_word, Knowledge, LoadingTerms}
use Rattle.at_machines.proofs.LoadingLaws.{IsLoadingSo-more}
use Rattle.at_machines.proofs.loading_entry.LoadingEntry.turn.Goals as goal

pub invariant_of-self : goal.invariant_of-self
invariant_of-self c =
    let i = c.self.inside in
    let v : Knowledge = i.seat.value.knows in
    let known : c.args.seat.now.knows ≡ v = c.requires.mark ∙ sym (ap (λ (t : LoadingTerms). t.knows) c.self.view_is) in
    let word : c.load_record_word-word.result ≡ seen_word v i.process i.number (0 + length i.words.items) =
    c.load_record_word-word.ensures.word
    ∙ (ap (λ (k : Knowledge). seen_word k i.process i.number c.len-j.result) known
    ∙ ap (seen_word v i.process i.number) (c.len-j.ensures.value ∙ sym (zero-add (length i.words.items)))) in
    IsLoadingSo-more v i.process i.number 0 i.words.items c.push.new.self.items c.self.invariant
    (c.push.ensures.items ∙ ap (λ w. i.words.items ++ w ∷ []) word)
