use Rattle.std.proofs.Common.{get_or, ap, arith}
use Rattle.at_logs.proofs.Prelude.{NodeTerms, ReadingState, delivered-process, read_state}
use Rattle.at_logs.proofs.TellingLaws.{all-told}
use Rattle.at_logs.proofs.node.Node.untold.Goals as goal

pub returns-clause-none : goal.returns-clause-none
returns-clause-none c = λ messages history.
    let s : ReadingState = read_state c.args.self.now messages in
    let is = history.reading in
    all-told s.node s.told is.node is.told (λ p m valid.
    c.loop-log.invariant p
    (omega (
      arith,
      delivered-process s.node.messages p (get_or s.told p 0) m valid.delivered,
      is.node.steady.sized,
      c.loop-log-test.false,
      c.loop-log.auto.log-end,
      c.logs-log-end.ensures,
      ap (λ (n : NodeTerms). n.core.book.logs) c.self.view_is,
    )) messages history m valid)

pub returns-in-Some-clause-first : goal.returns-in-Some-clause-first
returns-in-Some-clause-first c = λ messages history log m below. c.loop-log.invariant log (omega (arith, below, c.in-Some.ensures.log)) messages history m
