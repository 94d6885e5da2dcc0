use Rattle.std.proofs.Common.{◌≡◌, take}
use Rattle.at_commands.proofs.Prelude.{contents_of}
use Rattle.at_commands.proofs.picturing.same_files.Given as goal

-- the files so far are there
abbrev pub invariant-loop-calls : goal.invariant-loop-calls
invariant-loop-calls l = contents_of l.same.items ≡ contents_of (take l.calls-index l.files)
