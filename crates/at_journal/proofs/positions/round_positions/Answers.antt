use Rattle.at_journal.proofs.Prelude.{common_steps, length-map, publication_at, journal_order, HasRoundPositions, IsOnAccount, with_position}
use Rattle.std.proofs.Common.{◌≡◌, ◌+◌, ◌<◌, [], ap, arith, length, map, replicate, sym, subst, take, ◌∙◌}
use Rattle.at_journal.proofs.NamedLaws.{entry-published_in, length-published_in}
use Rattle.at_journal.proofs.RoundPositions.{HasRoundPositions-more, HasRoundPositions-none, IsOnAccount-journal_order}
use Rattle.at_journal.proofs.positions.round_positions.Goals as goal

pub loop-position-init : goal.loop-position-init
loop-position-init c =
    let order = journal_order c.args.closing.now in
    let accounts = length c.args.book.now.accounts in
    let none : map (λ v. v.items) c.in_ok-starts.starts.items ≡ replicate accounts [] =
    c.in_ok-starts.ensures ∙ ap (λ n. replicate n []) c.accounts.ensures.count in
    subst (HasRoundPositions accounts [] order) (sym none) (HasRoundPositions-none accounts order)

pub note_position-requires : goal.note_position-requires
note_position-requires c =
    let closing = c.args.closing.now in
    let order = c.args.order.now in
    let k = c.loop-position.position in
    let within : k < length (journal_order closing) = omega (arith, length-published_in closing order (journal_order closing) c.requires.order) in
    let size : length c.args.book.now.accounts ≡ length c.loop-position.starts.items =
    sym c.loop-position.invariant.sized ∙ length-map c.loop-position.starts.items (λ v. v.items) in
    let entry : (publication_at (journal_order closing) k).entry ≡ c.index-log-one.result.entry =
    entry-published_in closing order k (journal_order closing) c.log.result.now c.index-log-one.result c.requires.order c.requires.records (omega arith) c.log.ensures
    ∙ ap (λ x. x.entry) (sym c.index-log-one.is) in
    subst (λ n. IsOnAccount n c.index-log-one.result.entry) size
    (subst (IsOnAccount (length c.args.book.now.accounts)) entry (IsOnAccount-journal_order c.args.book.now closing k c.requires.coherent within))

pub loop-position-preserved : goal.loop-position-preserved
loop-position-preserved c =
    let closing = c.args.closing.now in
    let order = c.args.order.now in
    let k = c.loop-position.position in
    let list = journal_order closing in
    let before = map (λ v. v.items) c.loop-position.starts.items in
    let accounts = length c.args.book.now.accounts in
    let within : k < length list = omega (arith, length-published_in closing order list c.requires.order) in
    let entry : (publication_at list k).entry ≡ c.index-log-one.result.entry =
    entry-published_in closing order k list c.log.result.now c.index-log-one.result c.requires.order c.requires.records (omega arith) c.log.ensures
    ∙ ap (λ x. x.entry) (sym c.index-log-one.is) in
    subst (HasRoundPositions accounts (take (k + 1) list) list) (ap (λ e. with_position k e before) entry ∙ sym c.in_ok-note_position.ensures)
    (HasRoundPositions-more c.args.book.now closing k c.requires.coherent within before c.loop-position.invariant)

pub returns-clause-starts : goal.returns-clause-starts
returns-clause-starts c = grind (arith, common_steps)
