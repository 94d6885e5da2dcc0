use Rattle.std.proofs.Common.{◌≡◌, get_or, ap, sym, subst, ◌∙◌, inl, inr, arith}
use Rattle.std.proofs.lemmas.Bool.{false≢true}
use Rattle.at_logs.proofs.Prelude.{cases_lt, IsNextWithin, NodeTerms, ReadingState, delivered-process, read_state}
use Rattle.at_logs.proofs.node.Node.next_within.Goals as goal

pub loop-log-preserved : goal.loop-log-preserved
loop-log-preserved c = λ p below messages history reached next.
    let s : ReadingState = read_state c.args.self.now messages in
    absurd (elim (cases_lt p c.loop-log.log) [
      | inl earlier ↦ c.loop-log.invariant p earlier messages history reached next
      | inr here ↦
          let same : p ≡ c.loop-log.log = omega (arith, below, here) in
          false≢true (sym c.if-is_next_within.false ∙ (c.is_next_within.ensures.exact messages history reached).1 (subst (IsNextWithin s.node c.args.counts.now c.args.told.now) same next))
    ])

pub returns-clause-none : goal.returns-clause-none
returns-clause-none c = λ messages history reached log next.
    let s : ReadingState = read_state c.args.self.now messages in
    c.loop-log.invariant log
    (omega (
      arith,
      delivered-process s.node.messages log (get_or c.args.counts.now log 0) next.message next.next.delivered,
      history.reading.node.steady.sized,
      c.loop-log-test.false,
      c.loop-log.auto.log-end,
      c.logs-log-end.ensures,
      ap (λ (n : NodeTerms). n.core.book.logs) c.self.view_is,
    )) messages history reached next
