use Rattle.std.proofs.Common.{◌≡◌, take}
use Rattle.at_commands.proofs.picturing.same_calls.Given as goal

-- the calls so far are there
abbrev pub invariant-loop-call : goal.invariant-loop-call
invariant-loop-call l = l.file.items ≡ take l.call-index l.calls
