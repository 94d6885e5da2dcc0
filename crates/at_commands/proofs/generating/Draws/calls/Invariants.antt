use Rattle.std.proofs.Common.{◌≡◌, map}
use Rattle.at_commands.proofs.Prelude.{range_with_len, call_drawn, state_after_calls}
use Rattle.at_commands.proofs.generating.Draws.calls.Given as goal

abbrev pub invariant-loop : goal.invariant-loop
invariant-loop l = record {
  file : l.file.items ≡ map (λ i. call_drawn l.processes l.process (state_after_calls l.initial.self.state i)) (range_with_len 0 l.counter);
  state : l.self.state ≡ state_after_calls l.initial.self.state l.counter;
}
