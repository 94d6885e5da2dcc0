use Rattle.std.proofs.Common.{◌≡◌, ℕ, refl, sym, arith}
use Rattle.at_commands.proofs.Prelude.{map-range_with_len_more, call_drawn, state_after_calls}
use Rattle.at_commands.proofs.GeneratorLaws.{state_after_calls_more, state_after_calls_none}
use Rattle.at_commands.proofs.generating.Draws.calls.Goals as goal

pub loop-init : goal.loop-init
loop-init c = record { file = c.new-file.ensures.items; state = sym (state_after_calls_none c.args.self.now.state) }

pub loop-preserved : goal.loop-preserved
loop-preserved c =
    let x = c.args.self.now.state in
    let f = λ (i : ℕ). call_drawn c.args.processes c.args.process (state_after_calls x i) in
    let more = map-range_with_len_more f 0 c.loop.counter c.loop.counter (omega arith) in
    let next = state_after_calls_more x c.loop.counter in
    record {
      file = rw (c.in_ok-push.ensures.items, c.loop.invariant.file, c.call.ensures.call, c.loop.invariant.state, more) refl;
      state = rw (c.call.ensures.state, c.loop.invariant.state, next) refl;
    }

pub returns-clause-calls : goal.returns-clause-calls
returns-clause-calls c =
    let all : c.loop.counter ≡ c.args.calls = omega arith in
    rw all at c.loop.invariant.file

pub returns-clause-state : goal.returns-clause-state
returns-clause-state c =
    let all : c.loop.counter ≡ c.args.calls = omega arith in
    rw all at c.loop.invariant.state
