use Rattle.std.proofs.Common.{◌≡◌, ℕ, ◌+◌, ◌++◌, List, ap, decimal, ◌∙◌}
use Rattle.at_follow.proofs.Prelude.{Pay, call_words, encode_lower, line_text-parts, log_word, log_words}
use Rattle.at_follow.proofs.TextLaws.{word-at}
use Rattle.at_follow.proofs.printing.push_told.Goals as goal

pub returns : goal.returns
returns c =
    let out : List ℕ = c.args.out.now.items in
    let b = c.args.book.now in
    let names = c.args.names.now in
    let t = c.args.told.now in
    let word : c.as_slice.result.now ≡ log_word b names t.log =
    c.as_slice.ensures.value ∙ word-at c.args.words.now (log_words b names) t.log c.index-words-told.result c.requires.words c.requires.log_in c.index-words-told.is in
    let start : c.extend_from_slice.new.self.items ≡ out ++ log_word b names t.log = c.in_ok-extend_from_slice.ensures.items ∙ ap (λ (l : List ℕ). out ++ l) word in
    let reference : c.as_bytes.result.now ≡ encode_lower t.reference = c.as_bytes.ensures.value ∙ c.in_ok-encode.ensures in
    rw (c.in_ok-push.ensures.items, c.in_ok-push_word.ensures.text, reference, c.in_ok-push_pay.ensures, c.in_ok-push_number.ensures.text, c.from.ensures, start)
    (line_text-parts out (log_word b names t.log) (decimal (t.number + 1)) (encode_lower t.reference) (call_words names (Pay t.from t.targets)))
