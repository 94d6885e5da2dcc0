use Rattle.std.proofs.Common.{◌≡◌, ℕ, ◌-◌, ◌<◌, ◌≤◌, List, get_or, slice_get, None, Some, ap, sym, subst, ◌∙◌, arith}
use Rattle.std.proofs.lemmas.Bool.{false≢true}
use Rattle.at_logs.proofs.Prelude.{differ, same_Some, Covers, Message, NodeTerms, ReadingState, backlog_of, message_of, read_state}
use Rattle.at_logs.proofs.HistoryLaws.{IsMessageOn-kept, message_of-kept}
use Rattle.at_logs.proofs.TellingLaws.{IsNextWithin-covered}
use Rattle.at_logs.proofs.node.Node.is_next_within.Goals as goal

pub message-requires-clause-untold : goal.message-requires-clause-untold
message-requires-clause-untold c =
    subst (λ (n : NodeTerms). get_or n.core.told c.args.log 0 ≤ c.get-number.result) (sym c.self.view_is)
    (omega (arith, c.requires.untold c.args.log (omega (arith, c.requires.log_in, c.requires.counted)), c.get-number.ensures))

pub covers-requires : goal.covers-requires
covers-requires c =
    c.requires.counted
    ∙ (ap (λ (n : NodeTerms). n.core.book.logs) (sym c.self.view_is)
    ∙ sym (IsMessageOn-kept c.self.inside.core c.args.log _ c.in-Some.message.now c.known.ensures (omega (arith, c.requires.log_in, ap (λ (n : NodeTerms). n.core.book.logs) c.self.view_is)) c.in-Some.ensures).deps)

pub returns-in-Some-clause-exact : goal.returns-in-Some-clause-exact
returns-in-Some-clause-exact c = λ messages history reached.
    let s : ReadingState = read_state c.args.self.now messages in
    let counts : List ℕ = c.args.counts.now in
    let m : Message = c.in-Some.message.now in
    let untold : get_or s.told c.args.log 0 ≤ c.get-number.result = omega (arith, c.requires.untold c.args.log (omega (arith, c.requires.log_in, c.requires.counted)), c.get-number.ensures) in
    let kept = message_of-kept messages c.args.self.now c.args.log c.get-number.result history c.requires.log_in untold in
    let there : message_of messages c.args.log (get_or counts c.args.log 0) ≡ Some m =
    ap (message_of messages c.args.log) (sym c.get-number.ensures)
    ∙ (kept ∙ sym (subst (λ (n : NodeTerms). Some m ≡ slice_get (backlog_of n.core.backlogs c.args.log).messages (c.get-number.result - get_or n.core.told c.args.log 0)) c.self.view_is c.in-Some.ensures)) in
    let below : get_or counts c.args.log 0 < get_or c.args.told.now c.args.log 0 = omega (arith, c.if-number-get.false, c.get-number.ensures, c.get.ensures) in (
      λ covered. IsNextWithin-covered s.node counts c.args.told.now c.args.log m history.reading.node reached c.requires.validated c.requires.log_in below there (c.covers.ensures.0 covered),
      λ next. c.covers.ensures.1 (subst (λ (x : Message). Covers counts x.deps) (same_Some next.message m (sym next.next.delivered ∙ there)) next.next.covered),
    )

pub returns-in-None-clause-exact : goal.returns-in-None-clause-exact
returns-in-None-clause-exact c = λ messages history reached.
    let s : ReadingState = read_state c.args.self.now messages in
    let counts : List ℕ = c.args.counts.now in
    let untold : get_or s.told c.args.log 0 ≤ c.get-number.result = omega (arith, c.requires.untold c.args.log (omega (arith, c.requires.log_in, c.requires.counted)), c.get-number.ensures) in
    let kept = message_of-kept messages c.args.self.now c.args.log c.get-number.result history c.requires.log_in untold in
    let none : message_of messages c.args.log (get_or counts c.args.log 0) ≡ None =
    ap (message_of messages c.args.log) (sym c.get-number.ensures)
    ∙ (kept ∙ sym (subst (λ (n : NodeTerms). None ≡ slice_get (backlog_of n.core.backlogs c.args.log).messages (c.get-number.result - get_or n.core.told c.args.log 0)) c.self.view_is c.in-None.ensures)) in (
      λ t. absurd (false≢true t),
      λ next. absurd (differ next.message (sym none ∙ next.next.delivered)),
    )
