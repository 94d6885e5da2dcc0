use Rattle.std.proofs.Common.{◌≡◌, ◌<◌, ◌≤◌, length, get_or, ap, sym, subst, ◌∙◌, arith}
use Rattle.at_logs.proofs.Prelude.{get_or_read, CompactState, Covers, IsCompact, IsNextMade, IsStuck, Payout, SettlesFrom, amount_of, backlog_of}
use Rattle.at_logs.proofs.StateLaws.{next_known, stuck_before, stuck_short, valid_settled}
use Rattle.at_logs.proofs.compact.Compact.valid_of.Goals.{After-from}
use Rattle.at_logs.proofs.compact.Compact.valid_of.Goals as goal

compact : (c : After-from) → IsCompact c.settle_at.new.self
compact c = subst IsCompact c.self.view_is c.self.invariant.0

step : (c : After-from) → SettlesFrom c.args.self.now c.settle_at.new.self × IsNextMade c.settle_at.new.self c.in_ok-payout.payout c.in_ok-payout.deps
step c = c.settle_at.ensures.settles c.in_ok-payout.payout c.in_ok-payout.ensures.log c.in_ok-payout.ensures.some

all : (c : After-from) → Covers (backlog_of c.settle_at.new.self.backlogs c.in_ok-payout.payout.log).settled_at c.in_ok-payout.deps
all c = subst (λ p. Covers (backlog_of c.settle_at.new.self.backlogs p).settled_at c.in_ok-payout.deps) (sym c.in_ok-payout.ensures.log) c.settle_at.ensures.settled

-- what is settled of the source
read : (c : After-from) → c.from.result ≡ get_or c.settle_at.new.self.settled c.in_ok-payout.payout.from 0
read c =
    let t : Payout = c.in_ok-payout.payout in
    let ready = (step c).1 in
    let on = next_known c.settle_at.new.self t.log ready.message (compact c) ready.log ready.next in
    let within : t.from < length c.self.inside.settled.items =
    omega (arith, ready.source, on.source, (compact c).settled_sized, ap (λ (x : CompactState). length x.settled) c.self.view_is) in
    c.from.ensures ∙ (get_or_read c.self.inside.settled.items t.from c.index.result.now within c.index.ensures 0 ∙ ap (λ (x : CompactState). get_or x.settled t.from 0) c.self.view_is)

pub returns-then-sum-from-clause-none : goal.returns-then-sum-from-clause-none
returns-then-sum-from-clause-none c =
    let at = (goal.at.returns-then-sum-from-clause-none c).After-from in
    let t : Payout = c.in_ok-payout.payout in
    subst (IsStuck c.args.self.now) c.in_ok-payout.ensures.log
    (stuck_before c.args.self.now c.settle_at.new.self t.log (step at).0
    (stuck_short c.settle_at.new.self t c.in_ok-payout.deps (compact at) (step at).1 (all at) (omega (arith, c.if-sum-from.true, read at, c.sum.ensures.sum))))

pub returns-clause-some : goal.returns-clause-some
returns-clause-some c =
    let at = (goal.at.returns-clause-some c).After-from in
    let t : Payout = c.in_ok-payout.payout in
    let covers : amount_of t.targets ≤ get_or c.settle_at.new.self.settled t.from 0 = omega (arith, c.if-sum-from.false, read at, c.sum.ensures.sum) in
    record {
      deps = c.in_ok-payout.deps;
      ready = (step at).1;
      covers = covers;
      valid = λ messages k. (valid_settled c.settle_at.new.self t c.in_ok-payout.deps (compact at) (step at).1 (all at) messages k).0 covers;
    }
