use Rattle.at_report.proofs.Prelude.{common_steps, get_or-map, length-map, LedgerState, step, Call, Line, asked_in, run_from, last-take_more, run_from-nil, line_shown}
use Rattle.std.proofs.Common.{◌≡◌, ◌∙◌, ◌+◌, ◌<◌, ℕ, List, take, get_or, length, sym, ap, refl, arith}
use Rattle.at_report.proofs.replaying.replay.Goals as goal

pub loop-i-init : goal.loop-i-init
loop-i-init g c = record { last = rw run_from-nil refl; book = refl }

-- the state after one more line
last-line : (s now : LedgerState) (lines : List Line) (i : ℕ) (l : Line) → i < length lines → l ≡ get_or lines i l
    → now ≡ (run_from s (take i (asked_in lines))).last → (step now l.process l.call).ledger ≡ (run_from s (take (i + 1) (asked_in lines))).last
last-line s now lines i l within is was =
    let asked : ℕ × Call = (l.process, l.call) in
    let within_asked : i < length (asked_in lines) = rw length-map within in
    let call : get_or (asked_in lines) i asked ≡ asked =
    get_or-map (λ (m : Line). (m.process, m.call)) lines i l asked within ∙ ap (λ (m : Line). (m.process, m.call)) (sym is) in
    let more = last-take_more s (asked_in lines) i asked within_asked in
    sym (rw (call, ← was) at more)

pub loop-i-preserved : goal.loop-i-preserved
loop-i-preserved g c =
    let lines = g.J.Journal.lines c.args.journal.now in
    let within : c.loop-i.i < length lines = omega arith in
    record {
      last = c.step.ensures.state ∙ last-line c.in_ok-state.state c.loop-i.state lines c.loop-i.i (line_shown c.line-line.result) within c.line-line.ensures c.loop-i.invariant.last;
      book = c.step.ensures.book ∙ c.loop-i.invariant.book;
    }

pub returns-clause-last : goal.returns-clause-last
returns-clause-last g c = grind (arith, common_steps)
