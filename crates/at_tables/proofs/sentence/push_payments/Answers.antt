use Rattle.std.proofs.Common.{◌≡◌, ℕ, ◌+◌, ◌∙◌, ◌++◌, ap, length, arith}
use Rattle.at_tables.proofs.Prelude.{count_in, has_kind, is_agreed_kind, is_alone_kind, is_payment_kind, is_refused_kind, counted_text}
use Rattle.at_tables.proofs.KindsTextLaws.{payments_first}
use Rattle.at_tables.proofs.sentence.push_payments.Goals as goal

pub returns : goal.returns
returns c = λ files counts.
    let b = c.args.book.now in
    let out = c.args.out.now.items in
    let refused = c.from-refused.ensures ∙ counts.refused in
    let alone = c.from-alone.ensures ∙ counts.alone in
    let agreed = c.from-agreed.ensures ∙ counts.agreed in
    let payments : c.from-refused.result + c.from-alone.result + c.from-agreed.result ≡ count_in (has_kind is_payment_kind b) files =
    omega (arith, c.from-refused.ensures, c.from-alone.ensures, c.from-agreed.ensures, counts.refused, counts.alone, counts.agreed, payments_first b files (length files)) in
    c.in_ok-push_counted.ensures
    ∙ ap (λ (n : ℕ). out ++ counted_text n c.from-alone.result c.from-refused.result c.from-agreed.result) payments
    ∙ ap (λ (n : ℕ). out ++ counted_text (count_in (has_kind is_payment_kind b) files) n c.from-refused.result c.from-agreed.result) alone
    ∙ ap (λ (n : ℕ). out ++ counted_text (count_in (has_kind is_payment_kind b) files) (count_in (has_kind is_alone_kind b) files) n c.from-agreed.result) refused
    ∙ ap (λ (n : ℕ). out ++ counted_text (count_in (has_kind is_payment_kind b) files) (count_in (has_kind is_alone_kind b) files) (count_in (has_kind is_refused_kind b) files) n) agreed
