use Rattle.std.proofs.Common.{◌≡◌, ◌∙◌, ◌+◌, ◌*◌, ℕ, refl, ap, sym, arith}
use Rattle.at_commands.proofs.Prelude.{map-range_with_len_more, contents_of, contents_of-push, calls_drawn, state_after_calls}
use Rattle.at_commands.proofs.GeneratorLaws.{state_after_calls-add, state_after_calls_none}
use Rattle.at_commands.proofs.generating.draw_files.Goals as goal

pub loop-process-init : goal.loop-process-init
loop-process-init c = record {
  files = ap contents_of c.new-files.ensures.items;
  state =
      let none : 0 * c.args.calls ≡ 0 = omega arith in
      rw none (sym (state_after_calls_none c.args.first));
}

pub loop-process-preserved : goal.loop-process-preserved
loop-process-preserved c =
    let p = c.loop-process.process in
    let f = λ (q : ℕ). calls_drawn c.args.processes q c.args.calls (state_after_calls c.args.first (q * c.args.calls)) in
    let more = map-range_with_len_more f 0 p p (omega arith) in
    let next : p * c.args.calls + c.args.calls ≡ (p + 1) * c.args.calls = omega arith in
    record {
      files = ap contents_of c.in_ok-push.ensures.items ∙ contents_of-push c.loop-process.files.items c.in_ok-file.file
          ∙ rw (c.loop-process.invariant.files, c.in_ok-file.ensures.calls, c.loop-process.invariant.state, more) refl;
      state = rw (← next, ← state_after_calls-add c.args.first (p * c.args.calls) c.args.calls, ← c.loop-process.invariant.state) c.in_ok-file.ensures.state;
    }
