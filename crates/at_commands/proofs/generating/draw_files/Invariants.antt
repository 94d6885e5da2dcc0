use Rattle.std.proofs.Common.{◌≡◌, ◌*◌, map}
use Rattle.at_commands.proofs.Prelude.{range_with_len, contents_of, calls_drawn, state_after_calls}
use Rattle.at_commands.proofs.generating.draw_files.Given as goal

abbrev pub invariant-loop-process : goal.invariant-loop-process
invariant-loop-process l = record {
  files : contents_of l.files.items
      ≡ map (λ p. calls_drawn l.processes p l.calls (state_after_calls l.first (p * l.calls))) (range_with_len 0 l.process);
  state : l.draws.state ≡ state_after_calls l.first (l.process * l.calls);
}
