use Rattle.std.proofs.Common.{◌≡◌, ◌∙◌, ◌++◌, ℕ, List, ap, append_assoc}
use Rattle.at_pages.proofs.Prelude.{NameList, contents_of, Call, reply_field, answer_text, bar_text, spanned_call, label_if, rect_text, words_text, Span}
use Rattle.at_pages.proofs.bars.push_bar.Goals as goal

-- three texts after another
append-three : (out a b c : List ℕ) → ((out ++ a) ++ b) ++ c ≡ out ++ (a ++ b ++ c)
append-three out a b c = simp append_assoc

-- the parts of a bar, one after another
bar_text-parts : (names : NameList) (files : List (List Call)) (after : ℕ) (s : Span) (out barred worded whole first second reply : List ℕ)
    → first ≡ label_if names (spanned_call files s) → second ≡ label_if names (spanned_call files s) → reply ≡ reply_field s.reply
    → barred ≡ out ++ rect_text names first s → worded ≡ barred ++ words_text second after s → whole ≡ worded ++ answer_text reply s
    → whole ≡ out ++ bar_text names files after s
bar_text-parts names files after s out barred worded whole first second reply first-is second-is reply-is bar-is words-is answer-is =
    answer-is
    ∙ (ap (λ (r : List ℕ). worded ++ answer_text r s) reply-is
    ∙ (ap (λ (text : List ℕ). text ++ answer_text (reply_field s.reply) s) words-is
    ∙ (ap (λ (l : List ℕ). (barred ++ words_text l after s) ++ answer_text (reply_field s.reply) s) second-is
    ∙ (ap (λ (text : List ℕ). (text ++ words_text (label_if names (spanned_call files s)) after s) ++ answer_text (reply_field s.reply) s) bar-is
    ∙ (ap (λ (l : List ℕ). ((out ++ rect_text names l s) ++ words_text (label_if names (spanned_call files s)) after s) ++ answer_text (reply_field s.reply) s) first-is
    ∙ append-three out (rect_text names (label_if names (spanned_call files s)) s) (words_text (label_if names (spanned_call files s)) after s) (answer_text (reply_field s.reply) s))))))

pub returns : goal.returns
returns c =
    let label = c.in_ok-push_label_of.ensures ∙ ap (λ (text : List ℕ). text ++ label_if c.args.names.now (spanned_call (contents_of c.args.files.now) c.args.span.now)) c.new-label.ensures.items in
    bar_text-parts c.args.names.now (contents_of c.args.files.now) c.args.after c.args.span.now c.args.out.now.items c.push_rect.new.out.items c.push_words.new.out.items
    c.push_answer.new.out.items c.as_slice.result.now c.as_slice-2.result.now c.as_slice-3.result.now
    (c.as_slice.ensures.value ∙ label) (c.as_slice-2.ensures.value ∙ label)
    (c.as_slice-3.ensures.value ∙ (c.in_ok-push_reply.ensures ∙ ap (λ (text : List ℕ). text ++ reply_field c.args.span.now.reply) c.new-reply.ensures.items))
    c.in_ok-push_rect.ensures c.in_ok-push_words.ensures c.in_ok-push_answer.ensures
