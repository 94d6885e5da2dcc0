use Rattle.std.proofs.Common.{ℕ, ◌∙◌, ◌++◌, List, ap, append_assoc, sym, subst, flat_map}
use Rattle.at_tables.proofs.Prelude.{contents_of, length-contents_of, Call, AreCounts, GroupTerms, groups_of, agreement_text, payments_text}
use Rattle.at_tables.proofs.sentence.payments_sentence.Goals as goal

pub returns : goal.returns
returns c =
    let b = c.args.book.now in
    let names = c.args.names.now in
    let files : List (List Call) = contents_of c.args.files.now in
    let all = subst (λ (n : ℕ). AreCounts b files n c.in_ok-counts.counts) (sym (length-contents_of c.args.files.now ∙ c.requires.processes)) c.in_ok-counts.ensures in
    let groups = c.in_ok-groups.ensures.groups files all in
    rw (c.in_ok-push.ensures.items, c.in_ok-push_agreements.ensures, groups, c.in_ok-push_payments.ensures files all, c.new-out.ensures.items)
    (simp append_assoc)
