use Rattle.std.proofs.Common.{◌≡◌, ℕ, ◌<◌, List, [], ◌∷◌, ◌++◌, length, ap, sym, subst, ◌∙◌, arith}
use Rattle.at_logs.proofs.Prelude.{get_or_read, AreTargetsOn, CanPay, EntryMessage, EntryTerms, HasBytes, IsHistoryOf, NodeTerms, ReadingState, Tail, TargetPair, entry_bytes, no_tail, payment_entry, read_state, shown, tail_of}
use Rattle.at_logs.proofs.DraftLaws.{CanPay-shown, IsDraft-made, payment_entry-parts}
use Rattle.at_logs.proofs.ReadingLaws.{accounts-logs_of}
use Rattle.at_logs.proofs.node.Node.pay.Goals as goal

pub log_of-requires : goal.log_of-requires
log_of-requires c =
    omega (arith, c.requires.source_in, accounts-logs_of c.self.inside.core.book c.self.inside.book c.self.invariant.book, ap (λ (n : NodeTerms). length n.book.accounts) c.self.view_is)

pub returns-clause-some : goal.returns-clause-some
returns-clause-some c = λ messages_read history.
    let n : NodeTerms = record { book = c.self.inside.book; hash = c.self.inside.hash; core = c.self.inside.core; tails = c.self.inside.tails.items } in
    let s : ReadingState = read_state n messages_read in
    let view : n ≡ c.args.self.now = c.self.view_is in
    let is = subst (IsHistoryOf messages_read) (sym view) history in
    let log : ℕ = c.in-Some.log in
    let known : log < s.node.book.logs = omega (arith, c.if-log-logs.false, c.logs.ensures) in
    let tail : c.index-tail.result.now ≡ tail_of s log = get_or_read s.tails log c.index-tail.result.now (omega (arith, c.self.invariant.sized, known)) c.index-tail.ensures (no_tail 0) in
    let one : EntryMessage = record { from = c.args.from; targets = c.copy.result; reference = c.args.reference.now } in
    let messages = c.in_ok-push.ensures.items
    ∙ (ap (λ (l : List EntryMessage). l ++ one ∷ []) c.new-messages.ensures.items
    ∙ ap (λ (l : List TargetPair). record { from = c.args.from; targets = l; reference = c.args.reference.now } ∷ []) c.copy.ensures) in
    let made : EntryTerms = payment_entry s log c.args.writer c.args.from c.args.targets.now c.args.reference.now in
    let entry : c.new-entry.result ≡ made =
    c.new-entry.ensures
    ∙ payment_entry-parts s log c.args.writer c.args.from c.args.targets.now c.args.reference.now c.counts.result c.index-tail.result.now.hash _ c.counts.ensures (ap (λ (t : Tail). t.hash) tail) messages in
    let can : CanPay s log c.args.writer c.args.from c.args.targets.now =
    CanPay-shown n messages_read log c.args.writer c.args.from c.args.targets.now
    (subst (λ (t : NodeTerms). CanPay (shown t) log c.args.writer c.args.from c.args.targets.now) (sym view) (c.can_pay.ensures.0 c.if-not-can_pay.false)) in
    let accounts : length c.args.self.now.book.accounts ≡ length s.book.accounts = ap (λ (t : NodeTerms). length t.book.accounts) (sym view) in
    rw (sym view)
    (IsDraft-made s c.args.writer c.args.from c.args.targets.now c.args.reference.now _ is.reading known (omega (arith, c.requires.writer_in, ap (λ (t : NodeTerms). t.book.processes) view))
    (omega (arith, c.requires.source_in, accounts)) (subst (λ (n : ℕ). AreTargetsOn n c.args.targets.now) accounts c.requires.targets_in) can
    (subst HasBytes entry c.in_ok-entry_bytes.ensures.fits) (ap (λ (t : Tail). t.entries) tail) (c.in_ok-entry_bytes.ensures.spelled ∙ ap entry_bytes entry))
