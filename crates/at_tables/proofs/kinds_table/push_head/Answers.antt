use Rattle.std.proofs.Common.{◌≡◌, ℕ, ◌+◌, ◌∙◌, ◌++◌, ap, codes, length, arith}
use Rattle.at_tables.proofs.Prelude.{line_text, count_in, has_kind, is_agreed_kind, is_alone_kind, is_payment_kind, is_refused_kind, count_words}
use Rattle.at_tables.proofs.KindsTextLaws.{five_lines, payments_first}
use Rattle.at_tables.proofs.kinds_table.push_head.Goals as goal

pub returns : goal.returns
returns c = λ files counts.
    let b = c.args.book.now in
    let payments : c.from-refused.result + c.from-alone.result + c.from-agreed.result ≡ count_in (has_kind is_payment_kind b) files =
    omega (arith, c.from-refused.ensures, c.from-alone.ensures, c.from-agreed.ensures, counts.refused, counts.alone, counts.agreed, payments_first b files (length files)) in
    five_lines c.args.out.now.items c.push_numbered.new.out.items c.push_numbered-2.new.out.items c.push_numbered-3.new.out.items c.push_numbered-4.new.out.items c.push_numbered-5.new.out.items
    (count_words (codes "payments") (count_in (has_kind is_payment_kind b) files))
    (count_words (codes "refused") (count_in (has_kind is_refused_kind b) files))
    (count_words (codes "alone") (count_in (has_kind is_alone_kind b) files))
    (count_words (codes "agreed") (count_in (has_kind is_agreed_kind b) files))
    (count_words (codes "accounts") (length b.accounts))
    (c.in_ok-push_numbered.ensures.text ∙ ap (λ (n : ℕ). c.args.out.now.items ++ line_text (count_words (codes "payments") n)) payments)
    (c.in_ok-push_numbered-2.ensures.text ∙ ap (λ (n : ℕ). c.push_numbered.new.out.items ++ line_text (count_words (codes "refused") n)) (c.from-refused.ensures ∙ counts.refused))
    (c.in_ok-push_numbered-3.ensures.text ∙ ap (λ (n : ℕ). c.push_numbered-2.new.out.items ++ line_text (count_words (codes "alone") n)) (c.from-alone.ensures ∙ counts.alone))
    (c.in_ok-push_numbered-4.ensures.text ∙ ap (λ (n : ℕ). c.push_numbered-3.new.out.items ++ line_text (count_words (codes "agreed") n)) (c.from-agreed.ensures ∙ counts.agreed))
    (c.in_ok-push_numbered-5.ensures.text ∙ ap (λ (n : ℕ). c.push_numbered-4.new.out.items ++ line_text (count_words (codes "accounts") n)) (c.from.ensures ∙ c.accounts.ensures.count))
